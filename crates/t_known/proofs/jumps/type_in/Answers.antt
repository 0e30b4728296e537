use Rattle.std.proofs.Common.{rules, sym, get_or}
use Rattle.std.proofs.lemmas.List.Sorted.{answers_always}
use Rattle.t_intern.proofs.Walked.{reg_below}
use Rattle.t_known.proofs.Rising.{names_rise, found_at, found_none, none_before, lookup_there, lookup_none}
use Rattle.t_known.proofs.jumps.type_in.Goals as goal
use Rattle.idx_core.proofs.Lists.{item}

pub returns-in-Ok-clause-below : goal.returns-in-Ok-clause-below
returns-in-Ok-clause-below c = λ n below.
    let xs = c.args.regs.now in
    let lt = c.in-Ok.ensures.bound in
    reg_below n xs c.in-Ok.i (get_or xs c.in-Ok.i (0, 0)) lt (item xs c.in-Ok.i (0, 0) lt) below

pub returns-in-Ok-clause-found : goal.returns-in-Ok-clause-found
returns-in-Ok-clause-found c = λ ts rises.
    let xs = c.args.regs.now in
    let rise = names_rise ts 0 xs rises in
    let lt = c.in-Ok.ensures.bound in
    let found = found_at xs rise c.args.r c.in-Ok.i
    (c.in-Ok.ensures.position (λ x. x.0) (answers_always _ _ _ (λ f a r g called. search rules))) in
    sym (lookup_there ts xs c.args.r c.in-Ok.i lt found (none_before xs rise c.args.r c.in-Ok.i lt found))

pub returns-in-Err-clause-found : goal.returns-in-Err-clause-found
returns-in-Err-clause-found c = λ ts rises.
    let xs = c.args.regs.now in
    let rise = names_rise ts 0 xs rises in
    sym (lookup_none ts xs c.args.r
    (found_none xs rise c.args.r c.in-Err.field-0
    (c.in-Err.ensures.position (λ x. x.0) (answers_always _ _ _ (λ f a r g called. search rules)))))
