-- Lists of nothing.
use Rattle.std.proofs.Common.{ℕ, ◌+◌, ◌≤◌, List, [], ◌∷◌, refl, arith}
use Rattle.text_core.specs.Table.{Do}
use Rattle.t_text.specs.declared.token.Token.{Token}
use Rattle.t_text.specs.declared.wanted.Wanted.TheVariants as want
use Rattle.t_text.specs.Raw.{RTuple, ending, raw_regs, raw_fields}
use Rattle.t_text.specs.GrammarTable.{LNames, MakeNoNames, OfNames, LRegs, MakeNoRegs, OfFile, LFields, MakeNoFields}
use Rattle.t_text.specs.GrammarTable.{OfType, OfToken}
use Rattle.t_text.specs.Text.{most_open}
use Rattle.t_shapes.specs.ReadsTypes.{Reads}
use Rattle.t_shapes.specs.Cursor.{Next}
use Rattle.t_shapes.proofs.Stepping.{is_next, is_of, within, begins, by_do}
use Rattle.t_shapes.proofs.TypeLines.{no_names, no_regs, no_fields}

pub names_empty : (ts : List Token) (d i : ℕ) (c : Token) → d ≤ most_open → Next ts i want.RightBracket c →
    Reads LNames ts d i (i + 1) (OfNames [] ∷ [])
names_empty ts d i c h e = record {
  forward = omega arith;
  in_range = (let l = within ts i want.RightBracket c e in omega arith);
  same = by_do MakeNoNames [] (OfToken c ∷ []) (OfNames [] ∷ [])
      (begins ts d i c LNames (Do MakeNoNames ∷ []) (is_next ts i want.RightBracket c e)
      (rw (no_names c.kind (is_of ts i want.RightBracket c e)) refl) (omega arith)) (λ below. refl);
}

pub regs_empty : (ts : List Token) (d i : ℕ) (c : Token) → d ≤ most_open → Next ts i want.RightBrace c →
    Reads LRegs ts d i (i + 1) (OfFile (ending (raw_regs []) c.span.end) ∷ [])
regs_empty ts d i c h e = record {
  forward = omega arith;
  in_range = (let l = within ts i want.RightBrace c e in omega arith);
  same = by_do MakeNoRegs [] (OfToken c ∷ []) (OfFile (ending (raw_regs []) c.span.end) ∷ [])
      (begins ts d i c LRegs (Do MakeNoRegs ∷ []) (is_next ts i want.RightBrace c e)
      (rw (no_regs c.kind (is_of ts i want.RightBrace c e)) refl) (omega arith)) (λ below. refl);
}

pub fields_empty : (ts : List Token) (d i : ℕ) (c : Token) → d ≤ most_open → Next ts i want.RightAngle c →
    Reads LFields ts d i (i + 1) (OfType (ending (RTuple (raw_fields [])) c.span.end) ∷ [])
fields_empty ts d i c h e = record {
  forward = omega arith;
  in_range = (let l = within ts i want.RightAngle c e in omega arith);
  same = by_do MakeNoFields [] (OfToken c ∷ []) (OfType (ending (RTuple (raw_fields [])) c.span.end) ∷ [])
      (begins ts d i c LFields (Do MakeNoFields ∷ []) (is_next ts i want.RightAngle c e)
      (rw (no_fields c.kind (is_of ts i want.RightAngle c e)) refl) (omega arith)) (λ below. refl);
}
