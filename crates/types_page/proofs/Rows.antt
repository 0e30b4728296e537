-- Worked pages, proved by computing.
use Rattle.std.proofs.Common.{◌≡◌, ℕ, List, [], ◌∷◌, refl, codes}
use Rattle.std.specs.Prelude.{pos}
use Rattle.std.specs.Fmt.{digits}
use Rattle.f_terms.specs.Ty.{TInt, TVar, TArrow, TAll, TTuple, NoTys, MoreTys}
use Rattle.f_terms.specs.Tm.{Tm, SVar, SNum, SFix, SGen, SLet}
use Rattle.f_lexer.specs.declared.kind.Kind.{Kind}
use Rattle.f_lexer.specs.declared.kind.Kind.TheVariants as k
use Rattle.f_lexer.specs.declared.token.Token.{Token}
use Rattle.types_page.specs.Binders.{Value, Function, TypeName, Opened, Binds, binder}
use Rattle.types_page.specs.Page.{page, kind_text}
use Rattle.types_page.specs.Walk.{binders}

abbrev token : Kind → ℕ → ℕ → Token
token kind start end = record { kind = kind; span = record { start = start; end = end } }

-- a value that is named, on the second line
abbrev let_text : List ℕ
let_text = codes "-- one\nlet x = 1 in x"

abbrev let_tokens : List Token
let_tokens =
    token k.Let 7 10 ∷ token k.Name 11 12 ∷ token k.Equals 13 14 ∷ token (k.Plain (pos 1)) 15 16 ∷ token k.In 17 19
    ∷ token k.Name 20 21 ∷ []

abbrev let_term : Tm
let_term = SLet (7, 21) (SNum (15, 16) (pos 1)) (SVar (20, 21) 0)

let_binds : Binds let_term 0 NoTys (binder (7, 21) 0 (Value TInt) ∷ [])
let_binds = (TInt, refl, ([], ([], [], refl, refl, refl), refl))

let_found : binders let_term 0 NoTys ≡ binder (7, 21) 0 (Value TInt) ∷ []
let_found = refl

let_page : page let_text let_tokens (binder (7, 21) 0 (Value TInt) ∷ []) TInt ≡ codes "2:1: let x : int\nint\n"
unfolding digits
let_page = refl

-- a function inside of a type name
abbrev id_text : List ℕ
id_text = codes "gen a. fix f(x:a):a. x"

abbrev id_tokens : List Token
id_tokens =
    token k.Gen 0 3 ∷ token k.Name 4 5 ∷ token k.Dot 5 6 ∷ token k.Fix 7 10 ∷ token k.Name 11 12
    ∷ token k.LeftParen 12 13 ∷ token k.Name 13 14 ∷ token k.Colon 14 15 ∷ token k.Name 15 16
    ∷ token k.RightParen 16 17 ∷ token k.Colon 17 18 ∷ token k.Name 18 19 ∷ token k.Dot 19 20 ∷ token k.Name 21 22 ∷ []

id_found : binders (SGen (0, 22) (SFix (7, 22) (TVar 0) (TVar 0) (SVar (21, 22) 0))) 0 NoTys
    ≡ binder (0, 22) 0 TypeName ∷ binder (7, 22) 1 (Function (TVar 0) (TVar 0)) ∷ []
id_found = refl

id_page :
    page id_text id_tokens (binder (0, 22) 0 TypeName ∷ binder (7, 22) 1 (Function (TVar 0) (TVar 0)) ∷ [])
    (TAll (TArrow (TVar 0) (TVar 0))) ≡ codes "1:1: gen a as t0\n1:8: fix f(x : t0) : t0\nall t0. t0 -> t0\n"
unfolding digits
id_page = refl

-- a package inside of one type name: the hidden type is the second one
opened_text :
    kind_text (codes "open [a, x] = p in x")
    (token k.Open 0 4 ∷ token k.LeftBracket 5 6 ∷ token k.Name 6 7 ∷ token k.Comma 7 8 ∷ token k.Name 9 10 ∷ []) 1
    (Opened (TTuple (MoreTys (TVar 0) (MoreTys (TVar 1) NoTys)))) ≡ codes "open [a as t1, x : <t1, t0>]"
unfolding digits
opened_text = refl
