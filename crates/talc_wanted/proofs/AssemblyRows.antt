-- The table as data says what the grammar's table says.
use Rattle.std.proofs.Common.{◌≡◌, ◌==◌, refl, ap, ℕ, pos, Some, None, Bool, true, false, if◌then◌else◌, int_eq}
use Rattle.std.proofs.lemmas.Bool.Decides.{same_from_decides, Decides-int_eq, Decides-eqb, Decides-like}
use Rattle.idx_core.specs.declared.span.Span.{Span}
use Rattle.t_text.specs.declared.token.Kind.{Kind}
use Rattle.t_text.specs.declared.token.Kind.TheVariants as k
use Rattle.t_text.specs.declared.token.Token.{Token}
use Rattle.t_text.specs.contracts.token.KindPartialEq.TheImpl as same_kind
use Rattle.t_text.specs.GrammarTable as m
use Rattle.t_text.specs.GrammarTable.{table, Stack}
use Rattle.talc_wanted.specs.Owing.{IsKept, after, may_end, kept_row}
use Rattle.talc_wanted.specs.AssemblyTable.{kept_line, assembly_owes}

abbrev tok : Kind → Span → Token
tok kind s = record { kind = kind; span = s }

pos_one : (n m : ℕ) → pos n ≡ pos m → n ≡ m
pos_one n m e = cc

-- numbers of the code are equal where they are
same_value : (n m : ℕ) → same_kind.ghosts.eq (k.Plain (pos n)) (k.Plain (pos m)) ≡ (n == m)
same_value n m = same_from_decides (int_eq (pos n) (pos m)) (n == m) (Decides-int_eq (pos n) (pos m))
    (Decides-like (n == m) (λ e. ap pos e) (pos_one n m) (Decides-eqb n m))

-- the number of the header
by_number : (a b : Bool) (r s : Stack) →
    (if a then kept_row table kept_line (Some r) else if b then kept_row table kept_line (Some s) else None)
    ≡ kept_row table kept_line (if a then Some r else if b then Some s else None)
by_number true b r s = refl
by_number false true r s = refl
by_number false false r s = refl

rows_are : (n : m.Line) (kind : Kind) (s : Span) →
    after assembly_owes (kept_line n) (tok kind s) ≡ kept_row table kept_line (m.after n kind)
rows_are m.LHeader (k.Plain (pos n)) s =
    rw (same_value n 1, same_value n 2) (by_number (n == 1) (n == 2) m.blocks_owed m.items_owed)
rows_are m.LProgram k.Name s = refl
rows_are m.LHeader k.Name s = refl
rows_are m.LBlock k.Name s = refl
rows_are m.LMoreBlocks k.Name s = refl
rows_are m.LSomeItems k.Name s = refl
rows_are m.LFirst k.Name s = refl
rows_are m.LMoreItems k.Name s = refl
rows_are m.LItem k.Name s = refl
rows_are m.LTuple k.Name s = refl
rows_are m.LDatums k.Name s = refl
rows_are m.LMoreDatums k.Name s = refl
rows_are m.LBinds k.Name s = refl
rows_are m.LNames k.Name s = refl
rows_are m.LMoreNames k.Name s = refl
rows_are m.LFile k.Name s = refl
rows_are m.LRegs k.Name s = refl
rows_are m.LMoreRegs k.Name s = refl
rows_are m.LT k.Name s = refl
rows_are m.LFields k.Name s = refl
rows_are m.LMoreFields k.Name s = refl
rows_are m.LTypes k.Name s = refl
rows_are m.LTypeList k.Name s = refl
rows_are m.LSomeTypes k.Name s = refl
rows_are m.LMoreTypes k.Name s = refl
rows_are m.LV k.Name s = refl
rows_are m.LArgs k.Name s = refl
rows_are m.LPacked k.Name s = refl
rows_are m.LW k.Name s = refl
rows_are m.LWordArgs k.Name s = refl
rows_are m.LWordPacked k.Name s = refl
rows_are m.LTo k.Name s = refl
rows_are m.LAt k.Name s = refl
rows_are m.LIndex k.Name s = refl
rows_are m.LTarget k.Name s = refl
rows_are m.LInt k.Name s = refl
rows_are m.LI k.Name s = refl
rows_are m.LMoreSteps k.Name s = refl
rows_are m.LEnd k.Name s = refl
rows_are _ _ s = refl

ends_are : (n : m.Line) → may_end assembly_owes (kept_line n) ≡ m.may_end n
ends_are m.LProgram = refl
ends_are _ = refl

pub kept_is : IsKept table assembly_owes kept_line
kept_is = record {
  same_fits = λ k c. refl;
  same_after = λ n c. rows_are n c.kind c.span;
  same_ends = ends_are;
  same_first = refl;
}
