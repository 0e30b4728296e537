use Rattle.std.proofs.Common.{codes}
use Rattle.page_core.specs.Names.{margin, type_name, value_name}
use Rattle.kc_notation.proofs.Listed.{line_of}
use Rattle.kc_notation.proofs.page.Page.begin_unpack.Goals as goal

pub returns : goal.returns
returns c =
    line_of (margin c.args.self.now.body.scope.indent) (codes "let [") (type_name c.args.self.now.body.scope.types)
    (codes ", ") (value_name c.args.level) c.args.note.now (codes "] = unpack ") _ _ _ _ _ _ c.in_ok-front.ensures
    c.in_ok-write_type_name.ensures c.in_ok-extend_from_slice.ensures.items c.in_ok-write_value_name.ensures
    c.in_ok-extend_from_slice-2.ensures.items c.in_ok-extend_from_slice-3.ensures.items
