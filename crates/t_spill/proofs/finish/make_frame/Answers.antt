use Rattle.std.proofs.Common.{List, ℕ, ap, ◌∙◌}
use Rattle.t_types.specs.declared.types.TType.{TType}
use Rattle.t_types.specs.Read.{file}
use Rattle.t_spill_rules.specs.Spill.{among, gathered, numbers, before, gather}
use Rattle.t_spill_code.specs.Homes.{home_in}
use Rattle.t_spill_code.specs.Onto.{onto}
use Rattle.t_spill.specs.declared.finish.Code.{Code}
use Rattle.t_spill.proofs.Framed.{frame_made}
use Rattle.t_spill.proofs.finish.make_frame.Goals as goal

pub returns : goal.returns
returns c = λ n y ws x k t f.
    let old = c.args.code.now in
    let m = old.homes.split.low in
    let held = c.hold.new.self in
    let p = c.in_ok-to.ensures in
    let g = c.in_ok-code.ensures in
    let done = c.in_ok-close.ensures in
    let new : Code = record { homes = c.in_ok-code.field-0; body = c.close.new.self } in
    frame_made old new held c.args.rd ws y x c.in_ok-to.to.items p.0 c.gather.new.code.items c.in_ok-hold.ensures p.1
    (p.2 n y ws k t) f
    (λ rest. c.in_ok-gather.ensures rest
    ∙ ap (λ (xs : List (ℕ × TType)). onto old.body.tail.items (before (gather held.split.low (home_in held)
    (file xs)) rest)) c.deref.ensures.value)
    done.0 done.2 g.0
    (λ r. g.1 r ∙ ap (λ (xs : List (ℕ × TType)). (gathered m (numbers (file xs))).homes r) c.deref-2.ensures.value)
    (λ r. g.2 r ∙ ap (λ (xs : List (ℕ × TType)). among r (numbers (file xs))) c.deref-2.ensures.value)
