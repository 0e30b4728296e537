-- A new frame of all that is wanted, picked register by register.
use Rattle.std.proofs.Common.{◌≡◌, ℕ, ◌+◌, ◌<◌, ◌≤◌, cond, Bool, true, List, [], ◌∷◌, sym, ap, ap₂, ◌∙◌, drop, length}
use Rattle.std.proofs.Common.{get_or, Some}
use Rattle.std.proofs.Math.Path.{fun_ext}
use Rattle.std.proofs.lemmas.List.{drop_more, drop_all}
use Rattle.idx_core.specs.declared.span.Span.{Span}
use Rattle.t_types.specs.declared.types.TType.{TType}
use Rattle.t_types.specs.Tree.{Ty, TFile}
use Rattle.t_types.specs.Fits.{lookup}
use Rattle.t_types.specs.Read.{file, types}
use Rattle.t_terms.specs.Tree.{TSeq}
use Rattle.t_terms.specs.declared.instr.Instr.{Instr}
use Rattle.t_spill_rules.specs.Spill.{Held, homed, into, keep, among, numbers, high_part, before, gather, gathered}
use Rattle.t_spill_code.specs.Homes.{home_in, has_in, Sets, Lists, text, with_slots}
use Rattle.t_spill_code.specs.Onto.{onto, front}
use Rattle.t_spill_code.specs.declared.homes.Homes.{Homes}
use Rattle.t_spill_code.proofs.Made.{front_none}
use Rattle.t_spill.specs.Finishing.{Frames, Gathered}
use Rattle.t_spill.specs.Picking.{wanted, picked_one, picked}
use Rattle.t_spill.specs.declared.finish.Code.{Code}
use Rattle.t_spill.proofs.Picked.{picked_is}

-- one register more, and all of them
pub picked_next : (m : ℕ) (ws : List ℕ) (x : TFile) (qs : List ℕ) (i r d : ℕ) (old new : List (ℕ × TType)) (b : Bool)
    (all : TFile) → i < length qs → r ≡ get_or qs i d → b ≡ wanted m ws r →
    ((rest : TFile) → front new rest ≡ front old (cond b (picked_one r (lookup x r) rest) rest)) →
    front old (picked m ws x (drop i qs)) ≡ all → front new (picked m ws x (drop (i + 1) qs)) ≡ all
picked_next m ws x qs i r d old new b all lt is same put h =
    let rest = picked m ws x (drop (i + 1) qs) in
    put rest ∙ ap (λ c. front old (cond c (picked_one r (lookup x r) rest) rest)) same
    ∙ ap (λ (ks : List ℕ). front old (picked m ws x ks))
    (sym (drop_more qs i d lt ∙ ap (λ q. q ∷ drop (i + 1) qs) (sym is)))
    ∙ h

pub picked_all : (m : ℕ) (ws : List ℕ) (x : TFile) (qs : List ℕ) (i : ℕ) (made : List (ℕ × TType)) (all : TFile) →
    length qs ≤ i → front made (picked m ws x (drop i qs)) ≡ all → file made ≡ all
picked_all m ws x qs i made all le h =
    sym (front_none made) ∙ ap (λ (ks : List ℕ). front made (picked m ws x ks)) (sym (drop_all i qs le)) ∙ h

-- the code of a new frame
pub frame_made : (old new : Code) (held : Homes) (rd : ℕ) (ws : List ℕ) (y x : TFile) (to : List (ℕ × TType))
    (qs : List ℕ)
    (tail : List (Instr × Span)) → Sets old.homes held rd (Held (into old.homes.split.low rd)) → Lists held qs →
    file to ≡ picked held.split.low ws y qs → Frames old.homes rd ws y x →
    ((rest : TSeq) → onto tail rest ≡ onto old.body.tail.items (before (gather held.split.low (home_in held)
    (file to)) rest)) →
    length new.body.slots.items ≡ 0 →
    ((more : List Ty) (rest : TSeq) → text old.homes.split.low new.body more rest
    ≡ onto old.body.done.items (with_slots old.homes.split.low (types old.body.slots.items) [] (onto tail rest))) →
    new.homes.split.low ≡ old.homes.split.low →
    ((r : ℕ) → home_in new.homes r ≡ (gathered old.homes.split.low (numbers (file to))).homes r) →
    ((r : ℕ) → has_in new.homes r ≡ among r (numbers (file to))) → Gathered old new rd ws x
frame_made old new held rd ws y x to qs tail sets lists picks frames code none closed low homes has =
    let m = old.homes.split.low in (
      low,
      none,
      λ r. homes r ∙ ap (λ z. (gathered m (numbers z)).homes r) high,
      λ r. has r ∙ ap (λ z. among r (numbers z)) high,
      λ more rest. closed more rest
          ∙ ap (λ s. onto old.body.done.items (with_slots m (types old.body.slots.items) [] s))
          (code rest ∙ ap (onto old.body.tail.items) (same rest)),
    )
  where
    holds : (r : ℕ) (t : Ty) → old.homes.split.low < r → among r ws ≡ true → lookup x r ≡ Some t → has_in held r ≡ true
    holds r t lt is e = sets.2 r lt ∙ frames.2 r t lt is e

    high : file to ≡ high_part old.homes.split.low (keep ws x)
    high =
        picks ∙ ap (λ q. picked q ws y qs) sets.0
        ∙ picked_is old.homes.split.low ws y x qs held frames.0 frames.1 holds lists

    same : (rest : TSeq) → before (gather held.split.low (home_in held) (file to)) rest
        ≡ before (gather old.homes.split.low (homed (home_in old.homes) rd (Held (into old.homes.split.low rd)))
        (high_part old.homes.split.low (keep ws x))) rest
    same rest =
        ap (λ q. before (gather q (home_in held) (file to)) rest) sets.0
        ∙ ap₂ (λ h z. before (gather old.homes.split.low h z) rest) (fun_ext sets.1) high
