-- Fields of which some are set; variables' types at their levels; typed values and terms with the property.
use Rattle.std.proofs.Common.{◌≡◌, ℕ, zero, suc, ◌-◌, List, [], ◌∷◌, Some, refl, sym, ap, ◌∙◌, arith}
use Rattle.std.specs.Prelude.{true, map, option_map}
use Rattle.std.proofs.lemmas.Option.{slice_get-map}
use Rattle.a_laws.proofs.CLaws.{CLaws}
use Rattle.a_laws.proofs.Rel.{At, Later, at_more, at_new}
use Rattle.a_laws.proofs.Types.{atype_suc}
use Rattle.a_laws.specs.Allocate.{Known, arg_depth, arg_levels, atype, atypes, plain}
use Rattle.a_terms.specs.Each.{AProp, DEach, TEach, VEach}
use Rattle.a_terms.specs.Tree.{ADecl, AFields, AProg, ATm, ATy, AVal, Let, MoreAFields, ashift}
use Rattle.a_terms.specs.Typing.{TypedDecl, Fine, Has, TypedTerm, afield_type, afilled, aset, aunset, declared}
use Rattle.a_terms.specs.Typing.{more_vars, type_of, types_of}
use Rattle.c_terms.specs.C.{CTy, CTys, MoreCTys, NoCTys, ccount}
use Rattle.c_terms.specs.Typing.{cargs_onto, crens_scope}

-- the fields' types in the middle of the initialisations: those of ts are set, those of us are not
abbrev pub mixed : CTys → CTys → AFields
mixed NoCTys us = aunset (atypes us)
mixed (MoreCTys t ts) us = MoreAFields (atype t) true (mixed ts us)

abbrev pub more : CTys → CTy → CTys
more NoCTys u = MoreCTys u NoCTys
more (MoreCTys t ts) u = MoreCTys t (more ts u)

abbrev pub all_of : CTys → CTys → CTys
all_of NoCTys us = us
all_of (MoreCTys t ts) us = MoreCTys t (all_of ts us)

pub all_more : (ts : CTys) (u : CTy) (us : CTys) → all_of (more ts u) us ≡ all_of ts (MoreCTys u us)
all_more NoCTys u us = refl
all_more (MoreCTys t ts) u us = ap (MoreCTys t) (all_more ts u us)

pub count_more : (ts : CTys) (u : CTy) → ccount (more ts u) ≡ suc (ccount ts)
count_more NoCTys u = refl
count_more (MoreCTys t ts) u = ap suc (count_more ts u)

pub mixed_end : (ts : CTys) → mixed ts NoCTys ≡ aset (atypes (all_of ts NoCTys))
mixed_end NoCTys = refl
mixed_end (MoreCTys t ts) = ap (MoreAFields (atype t) true) (mixed_end ts)

pub mixed_fill : (ts : CTys) (u : CTy) (us : CTys) (j : ℕ) → j ≡ ccount ts →
    afilled (mixed ts (MoreCTys u us)) j ≡ mixed (more ts u) us
mixed_fill NoCTys u us zero e = refl
mixed_fill NoCTys u us (suc j) e = absurd (omega arith)
mixed_fill (MoreCTys t ts) u us zero e = absurd (omega arith)
mixed_fill (MoreCTys t ts) u us (suc j) e = ap (MoreAFields (atype t) true) (mixed_fill ts u us j (omega arith))

pub mixed_type : (ts : CTys) (u : CTy) (us : CTys) (j : ℕ) → j ≡ ccount ts →
    afield_type (mixed ts (MoreCTys u us)) j ≡ Some (atype u)
mixed_type NoCTys u us zero e = refl
mixed_type NoCTys u us (suc j) e = absurd (omega arith)
mixed_type (MoreCTys t ts) u us zero e = absurd (omega arith)
mixed_type (MoreCTys t ts) u us (suc j) e = mixed_type ts u us j (omega arith)

-- a variable's type stands at its level
abbrev pub AgreeT : ℕ → List Known → List CTy → List ATy → Type 0
AgreeT d [] [] ag = Unit {0}
AgreeT d [] (t ∷ g) ag = ⊥
AgreeT d (l ∷ ls) [] ag = ⊥
AgreeT d (l ∷ ls) (t ∷ g) ag = At d ag l.level (atype t) × AgreeT d ls g ag

pub agree_later : (ls : List Known) (g : List CTy) (d d2 : ℕ) (ag ag2 : List ATy) → Later d ag d2 ag2 →
    AgreeT d ls g ag → AgreeT d2 ls g ag2
agree_later [] [] d d2 ag ag2 k a = tt
agree_later [] (t ∷ g) d d2 ag ag2 k a = absurd a
agree_later (l ∷ ls) [] d d2 ag ag2 k a = absurd a
agree_later (l ∷ ls) (t ∷ g) d d2 ag ag2 k a = (k l.level (atype t) a.0, agree_later ls g d d2 ag ag2 k a.1)

pub agree_shifted : CLaws → (ls : List Known) (g : List CTy) (d : ℕ) (ag : List ATy) → AgreeT d ls g ag →
    AgreeT d ls (crens_scope suc g) (map (ashift 1 0) ag)
agree_shifted law [] [] d ag a = tt
agree_shifted law [] (t ∷ g) d ag a = absurd a
agree_shifted law (l ∷ ls) [] d ag a = absurd a
agree_shifted law (l ∷ ls) (t ∷ g) d ag a = (
  (
    a.0.0,
    slice_get-map (ashift 1 0) ag (d - suc l.level) ∙ ap (option_map (ashift 1 0)) a.0.1
        ∙ ap Some (sym (atype_suc law t)),
  ),
  agree_shifted law ls g d ag a.1,
)

pub agree_args : (args : CTys) (ls : List Known) (g : List CTy) (d : ℕ) (ag : List ATy) → AgreeT d ls g ag →
    AgreeT (arg_depth d args) (arg_levels d ls args) (cargs_onto args g) (types_of (atypes args) ag)
agree_args NoCTys ls g d ag a = a
agree_args (MoreCTys t ts) ls g d ag a =
    agree_args ts (plain d ∷ ls) (t ∷ g) (suc d) (atype t ∷ ag)
    (at_new d ag (atype t), agree_later ls g d (suc d) ag (atype t ∷ ag) (λ k u q. at_more d ag k u (atype t) q) a)

-- a typed value whose types have the property
pub record HasE (P : AProp) (p : AProg) (k : ℕ) (g : List ATy) (v : AVal) (t : ATy) : Type 0 where
  pub fine : Fine p k g v
  pub is : type_of p g v ≡ Some t
  pub each : VEach P p k g v

pub has_of : (P : AProp) (p : AProg) (k : ℕ) (g : List ATy) (v : AVal) (t : ATy) → HasE P p k g v t → Has p k g v t
has_of P p k g v t h = record { fine = h.fine; is = h.is }

-- a typed term whose types have the property
abbrev pub Both : AProp → AProg → ℕ → List ATy → ATm → Type 0
Both P p n ag t = TypedTerm p n ag t × TEach P p n ag t

pub both_let : (P : AProp) (p : AProg) (n : ℕ) (ag : List ATy) (x : ADecl) (e : ATm) → TypedDecl p n ag x →
    DEach P p n ag x → Both P p (more_vars x n) (declared p ag x) e → Both P p n ag (Let x e)
both_let P p n ag x e d de b = ((d, b.0), (de, b.1))
