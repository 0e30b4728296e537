-- Tokens between which a table makes no difference.
use Rattle.std.proofs.Common.{◌≡◌, ℕ, List, [], ◌∷◌, slice_get, refl, Option, Some, None, Bool, true, false}
use Rattle.std.proofs.Common.{if◌then◌else◌}
use Rattle.std.specs.Option.{is_some}
use Rattle.text_core.specs.Table.{Table, Stack, State, Tm, Nt, Do, Mark, step, on_line}
use Rattle.talc_wanted.specs.Wanted.{machine_of, takes, Kinds, IsTold}

module _ (g : Table) (c d : g.Tok) (fits : (k : g.Class) → g.fits k c ≡ g.fits k d)
    (after : (n : g.Line) → g.after n c ≡ g.after n d) where
  by_class : (b : Bool) (x y : State g) → is_some (if b then Some x else None) ≡ is_some (if b then Some y else None)
  by_class true x y = refl
  by_class false x y = refl

  by_end : (b : Bool) (x y : Option (State g)) → is_some x ≡ is_some y →
      is_some (if b then x else None) ≡ is_some (if b then y else None)
  by_end true x y e = e
  by_end false x y e = refl

  by_line : (r : Option (Stack g)) (s : Stack g) (vs us : List g.Val) (x y : Option (State g)) →
      is_some x ≡ is_some y → is_some (on_line g r s vs c x) ≡ is_some (on_line g r s us d y)
  by_line None s vs us x y e = e
  by_line (Some r) s vs us x y e = refl

  same_step : (s : Stack g) (vs us : List g.Val) → is_some (step g s vs c) ≡ is_some (step g s us d)
  same_step [] vs us = refl
  same_step (Tm k ∷ s) vs us =
      rw (fits k)
      (by_class (g.fits k d) (record { owed = s; made = g.value c ∷ vs }) (record { owed = s; made = g.value d ∷ us }))
  same_step (Nt n ∷ s) vs us =
      rw (after n) (by_line (g.after n d) s vs us _ _ (by_end (g.may_end n) _ _ (same_step s vs us)))
  same_step (Do a ∷ s) vs us = same_step s (g.act a vs) (g.act a us)
  same_step (Mark ∷ s) vs us = same_step s vs us

  pub same_takes : (st : State g) → takes (machine_of g) st c ≡ takes (machine_of g) st d
  same_takes st = same_step st.owed st.made st.made

-- so a token between which and one of a kind that is listed it makes none is told
pub told_as : {K : Type 0} (g : Table) (k : Kinds K g.Tok) (i : ℕ) (c : g.Tok) (kind : K) {wider : Option K}
    {words : List ℕ} → slice_get k.kinds i ≡ Some (kind, wider, words) →
    ((l : g.Class) → g.fits l c ≡ g.fits l (k.sample kind)) → ((n : g.Line) → g.after n c ≡ g.after n (k.sample kind)) →
    IsTold g k c
told_as g k i c kind {wider} {words} e f a = record {
  number = i;
  kind = kind;
  wider = wider;
  words = words;
  is_there = e;
  same = same_takes g c (k.sample kind) f a;
}
