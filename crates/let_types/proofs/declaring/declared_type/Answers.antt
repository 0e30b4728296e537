use Rattle.std.proofs.Common.{◌∙◌, [], ap, sym}
use Rattle.calc_core.proofs.Trees.{tree_Tuple}
use Rattle.c_terms.specs.C.{TCTuple}
use Rattle.c_terms.specs.Read.{ctys}
use Rattle.h_terms.specs.Nodes.{h_blocks, reads}
use Rattle.let_types.specs.Hoisted.{decl_of, decl_type}
use Rattle.let_types.specs.Names.{scope}
use Rattle.let_types.proofs.declaring.declared_type.Goals as goal

pub returns-in-Set : goal.returns-in-Set
returns-in-Set c =
    let ks = h_blocks c.args.of.blocks.now in
    let g = scope c.args.types c.args.names.now in
    tree_Tuple c.new.result ∙ ap (λ us. TCTuple (ctys us)) c.new.ensures.items
    ∙ ap (λ f. decl_type ks g (decl_of f (reads [] c.args.parts.now))) (sym c.in-Set.is)
