use Rattle.std.proofs.Common.{◌∙◌, ◌++◌, ◌∷◌, length, List, ap, sym, map}
use Rattle.f_terms.specs.Read.{tree}
use Rattle.k_terms.specs.Stream.{NTuple, NName}
use Rattle.k_terms.specs.Read.{ktree}
use Rattle.k_pass.specs.Emit.{atom_nodes}
use Rattle.k_pass.specs.declared.work.Atom.{Atom}
use Rattle.k_pass.specs.Machine.{atom, written}
use Rattle.k_pass.specs.declared.work.Control.TheVariants as C
use Rattle.k_pass.proofs.Moves.{next_is}
use Rattle.k_pass.proofs.Gives.{fields_next, fields_end}
use Rattle.std.proofs.Common.{◌<◌}
use Rattle.k_pass.specs.Machine.{FrameIn}
use Rattle.k_pass.proofs.Inside.{all_push, all_same, all_two}
use Rattle.k_pass.proofs.walk.walk_fields.Goals as goal

pub returns-in-Some-clause-steps : goal.returns-in-Some-clause-steps
returns-in-Some-clause-steps c =
    next_is c.enter.result (C.Walk c.in-Some.e.now c.args.depth) _ c.enter.ensures
    (λ waits t. fields_next t c.args.work.now c.enter.new.frames c.args.tuple.rest.now c.in-Some.e.now c.in-Some.rest
    c.args.tuple.done _ c.args.depth c.in-Some.ensures.cases.0 waits)

pub returns-in_ok-inside-in-None-clause-steps : goal.returns-in_ok-inside-in-None-clause-steps
returns-in_ok-inside-in-None-clause-steps c = λ t.
    fields_end t c.args.work.now c.put_tuple.new.out c.args.tuple.rest.now (map atom c.args.tuple.done.items)
    (tree c.args.tuple.ty.now)
    (ktree c.in_ok-made-in-None.made) c.args.depth c.in_ok-inside-in-None.inside
    c.in-None.ensures.cases
    (λ ns. c.in_ok-put_tuple-in-None.ensures ns
    ∙ ap (λ (xs : List Atom). written c.args.work.now
    ++ atom_nodes (map atom xs)
    (NTuple (length (map atom xs)) ∷ NName c.args.depth (ktree c.in_ok-made-in-None.made) ∷ ns))
    c.deref.ensures.value)
    c.in_ok-made-in-None.ensures c.in_ok-inside-in-None.ensures

pub returns-in-Some-clause-inside : goal.returns-in-Some-clause-inside
returns-in-Some-clause-inside c =
    next_is c.enter.result (C.Walk c.in-Some.e.now c.args.depth) _ c.enter.ensures
    (λ waits m low kept.
    let r = all_two (λ i. i < m) _ _ (all_same (λ i. i < m) _ _ (sym c.in-Some.ensures.cases.0) low) in
    (r.0, all_push (FrameIn m) _ _ _ waits kept.0 r.1, kept.1))

pub returns-in_ok-inside-in-None-clause-inside : goal.returns-in_ok-inside-in-None-clause-inside
returns-in_ok-inside-in-None-clause-inside c = λ m low kept. (tt, kept.0, kept.1)
