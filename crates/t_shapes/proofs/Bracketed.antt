-- What stands in brackets of instructions, and a register with a comma.
use Rattle.std.proofs.Common.{◌≡◌, ℕ, ◌+◌, List, [], ◌∷◌, refl, arith, inr}
use Rattle.text_core.specs.Table.{Tm, Nt, Do, Mark}
use Rattle.t_text.specs.declared.token.Token.{Token}
use Rattle.t_text.specs.declared.wanted.Wanted.{Wanted}
use Rattle.t_text.specs.declared.wanted.Wanted.TheVariants as want
use Rattle.t_text.specs.GrammarTable.{Stack, Val, Line, LTo, MakeTo, LAt, MakeAt, LIndex, OfToken, Act, act}
use Rattle.t_shapes.specs.declared.cursor.Stopped.{Stopped}
use Rattle.t_shapes.specs.ReadsTypes.{Reads, Fails}
use Rattle.t_shapes.specs.Cursor.{Next, IsMissed, TwoMissed}
use Rattle.t_shapes.proofs.Stepping.{Moves, within, as_token, by_two, by_do, by_mark, by_same, stop_two, Opens}
use Rattle.t_shapes.proofs.Stepping.{opening}
use Rattle.t_shapes.proofs.Lines.{to_begins, at_begins}

pub starting : (ts : List Token) (d i : ℕ) (owed : Stack) (vs : List Val) → Moves ts d i owed vs i owed vs
starting ts d i owed vs = record { leads = λ s below q. refl }

module _ (ts : List Token) (i : ℕ) where
  pub to_goes : Moves ts 0 i (Nt LTo ∷ []) [] i (Tm want.Register ∷ (Tm want.Comma ∷ (Do MakeTo ∷ []))) []
  to_goes = as_token ts 0 i LTo want.Register (Tm want.Comma ∷ (Do MakeTo ∷ [])) refl (λ c q. to_begins c.kind)

  pub at_goes : Moves ts 0 i (Nt LAt ∷ []) [] i (Tm want.Register ∷ (Nt LIndex ∷ (Do MakeAt ∷ []))) []
  at_goes = as_token ts 0 i LAt want.Register (Nt LIndex ∷ (Do MakeAt ∷ [])) refl (λ c q. at_begins c.kind)

-- a line that is an opening bracket, two tokens, and an action
module _ (ts : List Token) (i : ℕ) (n : Line) (v w : Wanted) (x : Act)
    (o : Opens n want.LeftBracket (Tm v ∷ (Tm w ∷ (Mark ∷ (Do x ∷ []))))) (c : Token)
    (e : Next ts i want.LeftBracket c) where
  inside : Moves ts 0 i (Nt n ∷ []) [] (i + 1) (Tm v ∷ (Tm w ∷ (Mark ∷ (Do x ∷ [])))) (OfToken c ∷ [])
  inside = opening ts 0 i c n want.LeftBracket (Tm v ∷ (Tm w ∷ (Mark ∷ (Do x ∷ [])))) o e (omega arith)

  pub two_stop : (s : Stopped) → TwoMissed ts (i + 1) v w s → Fails ts 0 i (Nt n ∷ []) [] s
  two_stop s f = stop_two s v w (Mark ∷ (Do x ∷ [])) (OfToken c ∷ []) inside (omega arith) f

  -- the first token is there, and the second is not
  pub second_stop : (a : Token) (k : ℕ) → k ≡ i + 1 + 1 → Next ts (i + 1) v a → (s : Stopped) → IsMissed ts k w s →
      Fails ts 0 i (Nt n ∷ []) [] s
  second_stop a k q f s g = two_stop s (inr (rw q at g.0, (a, f, rw q at g.1)))

  pub two_read : (a b : Token) (u : Val) → Next ts (i + 1) v a × Next ts (i + 1 + 1) w b →
      ((below : List Val) → act x (OfToken b ∷ (OfToken a ∷ (OfToken c ∷ below))) ≡ u ∷ below) →
      Reads n ts 0 i (i + 3) (u ∷ [])
  two_read a b u f k = record {
    forward = omega arith;
    in_range = (let l = within ts (i + 1 + 1) w b f.1 in omega arith);
    same = by_same (omega arith) (by_do x [] (OfToken b ∷ (OfToken a ∷ (OfToken c ∷ []))) (u ∷ [])
        (by_mark (Do x ∷ []) (OfToken b ∷ (OfToken a ∷ (OfToken c ∷ [])))
        (by_two v w a b (Mark ∷ (Do x ∷ [])) (OfToken c ∷ []) inside f (omega arith))) k);
  }
