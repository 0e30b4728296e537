-- What a line owes after its first token.
use Rattle.std.proofs.Common.{◌≡◌, ◌≢◌, ℕ, ℤ, ◌<◌, List, [], ◌∷◌, length, slice_get, refl, ap, Option, Some, None}
use Rattle.std.proofs.Common.{true, false}
use Rattle.std.proofs.lemmas.Option.{slice_get_within}
use Rattle.idx_core.specs.declared.arith.Op.{Op}
use Rattle.idx_core.specs.declared.arith.Op.TheVariants.{Add, Sub, Mul}
use Rattle.f_lexer.specs.declared.token.Token.{Token}
use Rattle.f_lexer.specs.declared.kind.Kind.{Kind}
use Rattle.f_lexer.specs.declared.kind.Kind.TheVariants as k
use Rattle.text_core.specs.Table.{Tm, Nt, Do, Mark, then_more}
use Rattle.text_core.specs.Going.{Lacks, at_the_end, other}
use Rattle.f_grammar.specs.declared.cursor.Wanted.TheVariants as want
use Rattle.f_grammar.specs.Machine.{table, LE, LP, LT, MoreParts, MoreFactors, MoreSums, MoreFields, Stack, MakeUnit}
use Rattle.f_grammar.specs.Machine.{MakeInst, MakeArith, MakeNext, fits, part_after, parts_after, factors_after}
use Rattle.f_grammar.specs.Machine.{sums_after, term_owed, fields_after, fields_tail, expr_after, sum_tail}
use Rattle.f_grammar.specs.Machine.{commas_after, branches_after, LHidden, LNames, MakeLet, MakePack, MakeOpen}
use Rattle.f_grammar.specs.Machine.{body_owed, hidden_after, two_names_after, assign_after, assign_owed}
use Rattle.f_grammar.specs.declared.heads.Argument.{Argument}
use Rattle.f_grammar.specs.declared.heads.Argument.TheVariants.{Part, Bracket}
use Rattle.f_grammar.specs.ReadsTerms.{argument_of, argument_next, sign_of, sign_next}

-- rows
pub record Next (ts : List Token) (i : ℕ) (P : Kind → Type 0) : Type 0 where
  pub token : Token
  pub is : slice_get ts i ≡ Some token
  pub has : P token.kind

pub argument_is : (ts : List Token) (i : ℕ) (a : Argument) → argument_next (slice_get ts i) ≡ Some a →
    Next ts i (λ c. argument_of c ≡ Some a)
argument_is ts i a e = by_token (slice_get ts i) refl e
  where
    by_token : (o : Option Token) → slice_get ts i ≡ o → argument_next o ≡ Some a →
        Next ts i (λ c. argument_of c ≡ Some a)
    by_token None f e = absurd (cc)
    by_token (Some c) f e = record { token = c; is = f; has = e }

pub begins_part : (c : Kind) → argument_of c ≡ Some Part → (r : Stack) × (part_after c ≡ Some r)
begins_part k.Name e = (_, refl)
begins_part (k.Plain n) e = (_, refl)
begins_part (k.Negative n) e = (_, refl)
begins_part k.LeftParen e = (_, refl)
begins_part k.LeftAngle e = (_, refl)
begins_part k.Hash e = (_, refl)
begins_part k.If0 e = (_, refl)
begins_part k.Ref e = (_, refl)
begins_part k.Bang e = (_, refl)
begins_part _ e = absurd (cc)

abbrev pub bracket_owed : Stack
bracket_owed = Nt LT ∷ (Tm want.RightBracket ∷ (Mark ∷ (Do MakeInst ∷ (Nt MoreParts ∷ []))))

pub begins_bracket : (c : Kind) → argument_of c ≡ Some Bracket → parts_after c ≡ Some bracket_owed
begins_bracket k.LeftBracket e = refl
begins_bracket _ e = absurd (cc)

pub no_argument : (c : Kind) → argument_of c ≡ None → parts_after c ≡ None
no_argument k.LeftBracket e = absurd (cc)
no_argument k.Name e = absurd (cc)
no_argument (k.Plain n) e = absurd (cc)
no_argument (k.Negative n) e = absurd (cc)
no_argument k.LeftParen e = absurd (cc)
no_argument k.LeftAngle e = absurd (cc)
no_argument k.Hash e = absurd (cc)
no_argument k.If0 e = absurd (cc)
no_argument k.Ref e = absurd (cc)
no_argument k.Bang e = absurd (cc)
no_argument _ e = refl

pub argument_lacks : (ts : List Token) (i : ℕ) → argument_next (slice_get ts i) ≡ None → Lacks table ts i MoreParts
argument_lacks ts i e = by_token (slice_get ts i) refl e
  where
    by_token : (o : Option Token) → slice_get ts i ≡ o → argument_next o ≡ None → Lacks table ts i MoreParts
    by_token None f e = at_the_end f
    by_token (Some c) f e = other c f (no_argument c.kind e)

pub sign_is : (ts : List Token) (i : ℕ) (op : Op) → sign_next (slice_get ts i) ≡ Some op →
    Next ts i (λ c. sums_after c ≡ Some (term_owed op))
sign_is ts i op e = by_token (slice_get ts i) refl e
  where
    by_kind : (c : Kind) → sign_of c ≡ Some op → sums_after c ≡ Some (term_owed op)
    by_kind k.Plus e = let q : Add ≡ op = cc in ap (λ (o : Op). Some (term_owed o)) q
    by_kind k.Minus e = let q : Sub ≡ op = cc in ap (λ (o : Op). Some (term_owed o)) q
    by_kind _ e = absurd (cc)

    by_token : (o : Option Token) → slice_get ts i ≡ o → sign_next o ≡ Some op →
        Next ts i (λ c. sums_after c ≡ Some (term_owed op))
    by_token None f e = absurd (cc)
    by_token (Some c) f e = record { token = c; is = f; has = by_kind c.kind e }

pub sign_lacks : (ts : List Token) (i : ℕ) → sign_next (slice_get ts i) ≡ None → Lacks table ts i MoreSums
sign_lacks ts i e = by_token (slice_get ts i) refl e
  where
    by_kind : (c : Kind) → sign_of c ≡ None → sums_after c ≡ None
    by_kind k.Plus e = absurd (cc)
    by_kind k.Minus e = absurd (cc)
    by_kind _ e = refl

    by_token : (o : Option Token) → slice_get ts i ≡ o → sign_next o ≡ None → Lacks table ts i MoreSums
    by_token None f e = at_the_end f
    by_token (Some c) f e = other c f (by_kind c.kind e)

abbrev pub star_owed : Stack
star_owed = Nt LP ∷ (Nt MoreParts ∷ (Do (MakeArith Mul) ∷ (Nt MoreFactors ∷ [])))

pub after_star : (c : Kind) → fits want.Star c ≡ true → factors_after c ≡ Some star_owed
after_star k.Star e = refl
after_star _ e = absurd (cc)

pub not_star : (c : Kind) → fits want.Star c ≡ false → factors_after c ≡ None
not_star k.Star e = absurd (cc)
not_star _ e = refl

pub after_more : (c : Kind) → fits want.RightAngle c ≡ true → fields_after c ≡ Some (Do MakeUnit ∷ [])
after_more k.RightAngle e = refl
after_more _ e = absurd (cc)

pub not_more : (c : Kind) → fits want.RightAngle c ≡ false → fields_after c ≡ then_more (expr_after c) fields_tail
not_more k.RightAngle e = absurd (cc)
not_more _ e = refl

pub after_comma : (c : Kind) → fits want.Comma c ≡ true →
    commas_after c ≡ Some (Nt LE ∷ (Do MakeNext ∷ (Nt MoreFields ∷ [])))
after_comma k.Comma e = refl
after_comma _ e = absurd (cc)

pub not_comma : (c : Kind) → fits want.Comma c ≡ false → commas_after c ≡ None
not_comma k.Comma e = absurd (cc)
not_comma _ e = refl

pub argument_within : (ts : List Token) (i : ℕ) (a : Argument) → argument_next (slice_get ts i) ≡ Some a → i < length ts
argument_within ts i a e = let n = argument_is ts i a e in slice_get_within ts i n.token n.is

pub none_of : (c : Kind) → c ≢ k.Name → ((z : ℤ) → c ≢ k.Plain z) → ((z : ℤ) → c ≢ k.Negative z) → c ≢ k.LeftParen →
    c ≢ k.LeftAngle → c ≢ k.Hash → c ≢ k.If0 → c ≢ k.Ref → c ≢ k.Bang → part_after c ≡ None
none_of k.Name a b d e f g h i j = absurd (a refl)
none_of (k.Plain n) a b d e f g h i j = absurd (b n refl)
none_of (k.Negative n) a b d e f g h i j = absurd (d n refl)
none_of k.LeftParen a b d e f g h i j = absurd (e refl)
none_of k.LeftAngle a b d e f g h i j = absurd (f refl)
none_of k.Hash a b d e f g h i j = absurd (g refl)
none_of k.If0 a b d e f g h i j = absurd (h refl)
none_of k.Ref a b d e f g h i j = absurd (i refl)
none_of k.Bang a b d e f g h i j = absurd (j refl)
none_of _ a b d e f g h i j = refl

pub as_sum : (c : Kind) → fits want.Fix c ≡ false → fits want.Gen c ≡ false → fits want.Let c ≡ false →
    fits want.Pack c ≡ false → fits want.Open c ≡ false → expr_after c ≡ then_more (part_after c) sum_tail
as_sum k.Gen a b d e f = absurd (cc)
as_sum k.Fix a b d e f = absurd (cc)
as_sum k.Let a b d e f = absurd (cc)
as_sum k.Pack a b d e f = absurd (cc)
as_sum k.Open a b d e f = absurd (cc)
as_sum _ a b d e f = refl

pub after_let : (c : Kind) → fits want.Let c ≡ true → expr_after c ≡ Some (Tm want.Name ∷ body_owed MakeLet)
after_let k.Let e = refl
after_let _ e = absurd (cc)

abbrev pub pack_owed : Stack
pack_owed = Nt LHidden ∷ (Tm want.As ∷ (Nt LT ∷ (Do MakePack ∷ [])))

pub after_pack : (c : Kind) → fits want.Pack c ≡ true → expr_after c ≡ Some pack_owed
after_pack k.Pack e = refl
after_pack _ e = absurd (cc)

pub after_open : (c : Kind) → fits want.Open c ≡ true → expr_after c ≡ Some (Nt LNames ∷ body_owed MakeOpen)
after_open k.Open e = refl
after_open _ e = absurd (cc)

abbrev pub hidden_owed : Stack
hidden_owed = Nt LT ∷ (Tm want.Comma ∷ (Nt LE ∷ (Tm want.RightBracket ∷ (Mark ∷ []))))

pub after_bracket : (c : Kind) → fits want.LeftBracket c ≡ true → hidden_after c ≡ Some hidden_owed
after_bracket k.LeftBracket e = refl
after_bracket _ e = absurd (cc)

pub not_bracket : (c : Kind) → fits want.LeftBracket c ≡ false → hidden_after c ≡ None
not_bracket k.LeftBracket e = absurd (cc)
not_bracket _ e = refl

abbrev pub names_owed : Stack
names_owed = Tm want.Name ∷ (Tm want.Comma ∷ (Tm want.Name ∷ (Tm want.RightBracket ∷ (Mark ∷ []))))

pub after_names : (c : Kind) → fits want.LeftBracket c ≡ true → two_names_after c ≡ Some names_owed
after_names k.LeftBracket e = refl
after_names _ e = absurd (cc)

pub not_names : (c : Kind) → fits want.LeftBracket c ≡ false → two_names_after c ≡ None
not_names k.LeftBracket e = absurd (cc)
not_names _ e = refl

pub after_assign : (c : Kind) → fits want.Assign c ≡ true → assign_after c ≡ Some assign_owed
after_assign k.Assign e = refl
after_assign _ e = absurd (cc)

pub not_assign : (c : Kind) → fits want.Assign c ≡ false → assign_after c ≡ None
not_assign k.Assign e = absurd (cc)
not_assign _ e = refl

abbrev pub branches_owed : Stack
branches_owed = Nt LE ∷ (Tm want.Comma ∷ (Nt LE ∷ (Tm want.Comma ∷ (Nt LE ∷ (Tm want.RightParen ∷ (Mark ∷ []))))))

pub after_paren : (c : Kind) → fits want.LeftParen c ≡ true → branches_after c ≡ Some branches_owed
after_paren k.LeftParen e = refl
after_paren _ e = absurd (cc)

pub not_paren : (c : Kind) → fits want.LeftParen c ≡ false → branches_after c ≡ None
not_paren k.LeftParen e = absurd (cc)
not_paren _ e = refl
