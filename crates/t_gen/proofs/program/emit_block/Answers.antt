use Rattle.std.proofs.Common.{◌∷◌, [], ◌∙◌, ap, ap₂, sym, subst, length}
use Rattle.t_terms.specs.Read.{blocks_of}
use Rattle.t_gen.specs.Filling.{finish}
use Rattle.a_terms.specs.Tree.{arity}
use Rattle.t_gen_rules.specs.Gen.{rows}
use Rattle.a_terms.specs.Typing.{types_of}
use Rattle.a_terms.specs.Read.{atrees}
use Rattle.a_scope.specs.Scope.{scope}
use Rattle.a_terms.specs.Program.{program_in}
use Rattle.a_terms.specs.Arity.{ARow}
use Rattle.t_gen.specs.Pending.{body_job}
use Rattle.t_gen.proofs.Bodies.{homes_rows}
use Rattle.t_gen.proofs.program.emit_block.Goals as goal

pub emit_body-requires-clause-one : goal.emit_body-requires-clause-one
emit_body-requires-clause-one c = subst (λ ns. ARow ns 1) (sym c.deref-2.ensures.value) c.requires.one

pub emit_body-requires-clause-homes : goal.emit_body-requires-clause-homes
emit_body-requires-clause-homes c = homes_rows c.in_ok-vars.vars.items _ c.in_ok-vars.ensures.homes

pub returns : goal.returns
returns c =
    let prog = program_in c.args.program.now in
    let o = blocks_of c.args.out.now.items in
    c.in_ok-emit_body.ensures
    ∙ ap (λ m. finish prog (length o) o
    (body_job c.args.at c.args.block.now.owes m (scope c.args.block.now.owes c.in_ok-vars.vars.items)
    c.deref-2.result.now ∷ []))
    (c.in_ok-vars.ensures.homes ∙ ap (λ xs. rows (arity (atrees xs))) c.deref.ensures.value)
    ∙ ap₂ (λ g ns. finish prog (length o) o
    (body_job c.args.at c.args.block.now.owes (rows (arity (atrees c.args.block.now.args.items))) g ns ∷ []))
    (c.in_ok-vars.ensures.scope ∙ ap (λ xs. types_of (atrees xs) []) c.deref.ensures.value) c.deref-2.ensures.value
