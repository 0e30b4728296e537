-- The lines of types and lists by their first tokens.
use Rattle.std.proofs.Common.{◌≡◌, ◌≢◌, [], ◌∷◌, ◌++◌, slice_get, refl, Some, None, true, false, if◌then◌else◌}
use Rattle.text_core.specs.Table.{Tm, Nt, Do, Mark, then_more}
use Rattle.text_core.proofs.Going as step
use Rattle.t_text.specs.declared.token.Kind.{Kind}
use Rattle.t_text.specs.declared.token.Kind.TheVariants as k
use Rattle.t_text.specs.declared.wanted.Wanted.TheVariants as want
use Rattle.t_text.specs.GrammarTable.{table, LBinds, LNames, LMoreNames, MakeBinds, MakeFirstName, MakeNextName}
use Rattle.t_text.specs.GrammarTable.{MakeClosedNames, LFile, LRegs, LMoreRegs, MakeFile, MakeFirstReg, MakeNextReg}
use Rattle.t_text.specs.GrammarTable.{MakeClosedRegs, LT, LFields, LMoreFields, MakeFirstField, MakeNextField}
use Rattle.t_text.specs.GrammarTable.{MakeClosedFields, fits, after, type_after, fields_after, fields_tail}
use Rattle.t_text.specs.Text.{most_open}
use Rattle.t_shapes.specs.ReadsTypes.{entry_owed, field_owed}
use Rattle.t_shapes.proofs.Stepping.{not_fits, Opens, as_token, ListLine}

pub opens_binds : Opens LBinds want.LeftBracket (Nt LNames ∷ (Mark ∷ (Do MakeBinds ∷ [])))
opens_binds = record { takes = λ c e. takes c e; no_other = λ c e. no_other c e }
  where
    takes : (c : Kind) → fits want.LeftBracket c ≡ true →
        after LBinds c ≡ Some (Nt LNames ∷ (Mark ∷ (Do MakeBinds ∷ [])))
    takes k.LeftBracket e = refl
    takes _ e = absurd (cc)

    no_other : (c : Kind) → fits want.LeftBracket c ≡ false → after LBinds c ≡ None
    no_other k.LeftBracket e = absurd (cc)
    no_other _ e = refl

pub opens_file : Opens LFile want.LeftBrace (Nt LRegs ∷ (Mark ∷ (Do MakeFile ∷ [])))
opens_file = record { takes = λ c e. takes c e; no_other = λ c e. no_other c e }
  where
    takes : (c : Kind) → fits want.LeftBrace c ≡ true → after LFile c ≡ Some (Nt LRegs ∷ (Mark ∷ (Do MakeFile ∷ [])))
    takes k.LeftBrace e = refl
    takes _ e = absurd (cc)

    no_other : (c : Kind) → fits want.LeftBrace c ≡ false → after LFile c ≡ None
    no_other k.LeftBrace e = absurd (cc)
    no_other _ e = refl

-- the commas of the lists
comma_names : Opens LMoreNames want.Comma (Tm want.Name ∷ (Do MakeNextName ∷ (Nt LMoreNames ∷ [])))
comma_names = record { takes = λ c e. takes c e; no_other = λ c e. no_other c e }
  where
    takes : (c : Kind) → fits want.Comma c ≡ true →
        after LMoreNames c ≡ Some (Tm want.Name ∷ (Do MakeNextName ∷ (Nt LMoreNames ∷ [])))
    takes k.Comma e = refl
    takes _ e = absurd (cc)

    no_other : (c : Kind) → fits want.Comma c ≡ false → after LMoreNames c ≡ None
    no_other k.Comma e = absurd (cc)
    no_other _ e = refl

comma_regs : Opens LMoreRegs want.Comma (entry_owed ++ (Do MakeNextReg ∷ (Nt LMoreRegs ∷ [])))
comma_regs = record { takes = λ c e. takes c e; no_other = λ c e. no_other c e }
  where
    takes : (c : Kind) → fits want.Comma c ≡ true →
        after LMoreRegs c ≡ Some (entry_owed ++ (Do MakeNextReg ∷ (Nt LMoreRegs ∷ [])))
    takes k.Comma e = refl
    takes _ e = absurd (cc)

    no_other : (c : Kind) → fits want.Comma c ≡ false → after LMoreRegs c ≡ None
    no_other k.Comma e = absurd (cc)
    no_other _ e = refl

comma_fields : Opens LMoreFields want.Comma (field_owed ++ (Do MakeNextField ∷ (Nt LMoreFields ∷ [])))
comma_fields = record { takes = λ c e. takes c e; no_other = λ c e. no_other c e }
  where
    takes : (c : Kind) → fits want.Comma c ≡ true →
        after LMoreFields c ≡ Some (field_owed ++ (Do MakeNextField ∷ (Nt LMoreFields ∷ [])))
    takes k.Comma e = refl
    takes _ e = absurd (cc)

    no_other : (c : Kind) → fits want.Comma c ≡ false → after LMoreFields c ≡ None
    no_other k.Comma e = absurd (cc)
    no_other _ e = refl

-- how a list begins that is not empty
names_begin : (c : Kind) → fits want.RightBracket c ≡ false →
    after LNames c
    ≡ (if fits want.Name c then Some
    (Do MakeFirstName ∷ (Nt LMoreNames ∷ (Tm want.RightBracket ∷ (Do MakeClosedNames ∷ [])))) else None)
names_begin k.RightBracket e = absurd (cc)
names_begin k.Name e = refl
names_begin _ e = refl

regs_begin : (c : Kind) → fits want.RightBrace c ≡ false →
    after LRegs c
    ≡ (if fits want.Register c then Some
    (Tm want.Colon ∷ (Nt LT ∷ (Do MakeFirstReg ∷ (Nt LMoreRegs ∷ (Tm want.RightBrace ∷ (Do MakeClosedRegs ∷ []))))))
    else None)
regs_begin k.RightBrace e = absurd (cc)
regs_begin (k.Register r) e = refl
regs_begin _ e = refl

fields_begin : (c : Kind) → fits want.RightAngle c ≡ false → fields_after c ≡ then_more (type_after c) fields_tail
fields_begin k.RightAngle e = absurd (cc)
fields_begin _ e = refl

pub list_names : ListLine LNames LMoreNames want.RightBracket (Tm want.Name ∷ []) MakeFirstName MakeNextName
    MakeClosedNames
list_names = record {
  begin = λ ts d i e. as_token ts d i LNames want.Name _ refl
      (λ c q. names_begin c.kind (not_fits want.RightBracket (slice_get ts i) c e q));
  comma = comma_names;
  ends = refl;
  flat = refl;
}

pub list_regs : ListLine LRegs LMoreRegs want.RightBrace entry_owed MakeFirstReg MakeNextReg MakeClosedRegs
list_regs = record {
  begin = λ ts d i e. as_token ts d i LRegs want.Register _ refl
      (λ c q. regs_begin c.kind (not_fits want.RightBrace (slice_get ts i) c e q));
  comma = comma_regs;
  ends = refl;
  flat = refl;
}

pub list_fields : ListLine LFields LMoreFields want.RightAngle field_owed MakeFirstField MakeNextField MakeClosedFields
list_fields = record {
  begin = λ ts d i e. step.as_any table most_open ts d i LT LFields fields_tail [] [] refl refl
      (λ c q. fields_begin c.kind (not_fits want.RightAngle (slice_get ts i) c e q));
  comma = comma_fields;
  ends = refl;
  flat = refl;
}

-- a list of nothing
pub no_names : (c : Kind) → fits want.RightBracket c ≡ true → c ≡ k.RightBracket
no_names k.RightBracket e = refl
no_names _ e = absurd (cc)

pub no_regs : (c : Kind) → fits want.RightBrace c ≡ true → c ≡ k.RightBrace
no_regs k.RightBrace e = refl
no_regs _ e = absurd (cc)

pub no_fields : (c : Kind) → fits want.RightAngle c ≡ true → c ≡ k.RightAngle
no_fields k.RightAngle e = refl
no_fields _ e = absurd (cc)

-- no type begins
pub no_type : (c : Kind) → c ≢ k.Int → c ≢ k.Name → c ≢ k.All → c ≢ k.Some → c ≢ k.LeftAngle → type_after c ≡ None
no_type k.Int a b d e f = absurd (a refl)
no_type k.Name a b d e f = absurd (b refl)
no_type k.All a b d e f = absurd (d refl)
no_type k.Some a b d e f = absurd (e refl)
no_type k.LeftAngle a b d e f = absurd (f refl)
no_type _ a b d e f = refl
