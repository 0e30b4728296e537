-- One more name in scope.
use Rattle.std.proofs.Common.{◌≡◌, ◌≤◌, ◌∙◌, ◌+◌, ◌-◌, ℕ, suc, List, [], ◌∷◌, ◌++◌, length, get_or}
use Rattle.std.proofs.Common.{refl, sym, ap, ap₂, arith, Bool, true, false}
use Rattle.calc_core.specs.Calculus.{opens, scope_more}
use Rattle.calc_core.specs.Ends.{after_one}
use Rattle.idx_core.specs.Laws.{shift_add_law, shift_zero_law}
use Rattle.calc_core.specs.Read.{tree}
use Rattle.calc_core.specs.TyLaws.{types_part, types_over}
use Rattle.calc_core.specs.Walks.{shift}
use Rattle.calc_core.proofs.Bridge.{ren_lift}
use Rattle.c_terms.specs.C.{CTy}
use Rattle.c_terms.specs.Typing.{cren, crens_scope}
use Rattle.h_terms.specs.H.{HBlks, HDecl}
use Rattle.h_terms.specs.Nodes.{reads}
use Rattle.h_terms.specs.declared.node.HPart.{HPart}
use Rattle.h_terms.specs.declared.node.HPart.TheVariants.{Var}
use Rattle.let_types.specs.Hoisted.{decl_type, first_type, names_behind, types_behind}
use Rattle.let_types.specs.Names.{scope, shown, Under}
use Rattle.let_types.specs.declared.named.Named.{Named}
use Rattle.let_types.proofs.Naming.{name_in}

-- a name whose type was noted where as many type names are in scope
pub shown_own : (k : ℕ) (e : Named) → e.types ≡ k → shown k e ≡ tree e.ty
shown_own k e same =
    let z : k - e.types ≡ 0 = omega (arith, same) in
    ap (λ n. shift n 0 (tree e.ty)) z ∙ shift_zero_law types_over 0 (tree e.ty)

-- one more type name
shown_more : (k : ℕ) (e : Named) → e.types ≤ k → shown (suc k) e ≡ shift 1 0 (shown k e)
shown_more k e le =
    let s : suc k - e.types ≡ k - e.types + 1 = omega (arith, le) in
    ap (λ n. shift n 0 (tree e.ty)) s
    ∙ sym (shift_add_law types_part types_over (k - e.types) 1 0 (tree e.ty))

renamed_snoc : (xs : List CTy) (x : CTy) → crens_scope suc (xs ++ x ∷ []) ≡ crens_scope suc xs ++ shift 1 0 x ∷ []
renamed_snoc [] x = ap (λ t. t ∷ []) (ren_lift 1 x)
renamed_snoc (y ∷ ys) x = ap (λ zs. cren suc y ∷ zs) (renamed_snoc ys x)

scope_opened : (k : ℕ) (es : List Named) → Under k es → scope (suc k) es ≡ crens_scope suc (scope k es)
scope_opened k [] u = refl
scope_opened k (e ∷ es) u =
    ap₂ (λ g t. g ++ t ∷ []) (scope_opened k es u.1) (shown_more k e u.0)
    ∙ sym (renamed_snoc (scope k es) (shown k e))

scope_after : (b : Bool) (k : ℕ) (es : List Named) → Under k es →
    scope (after_one b k) es ≡ scope_more b (scope k es)
scope_after true k es u = scope_opened k es u
scope_after false k es u = refl

-- one more name
pub scope_snoc : (k : ℕ) (es : List Named) (e : Named) → scope k (es ++ e ∷ []) ≡ shown k e ∷ scope k es
scope_snoc k [] e = refl
scope_snoc k (x ∷ es) e = ap (λ g. g ++ shown k x ∷ []) (scope_snoc k es e)

pub declared_is : (ks : HBlks) (x : HDecl) (k : ℕ) (es new : List Named) (e : Named) → new ≡ es ++ e ∷ [] →
    Under k es → shown (types_behind k x) e ≡ decl_type ks (scope k es) x →
    scope (types_behind k x) new ≡ names_behind ks (scope k es) x
declared_is ks x k es new e is u t =
    ap (scope (types_behind k x)) is ∙ scope_snoc (types_behind k x) es e
    ∙ ap₂ (λ (y : CTy) g. y ∷ g) t (scope_after (opens x) k es u)

pub under_push : (k j : ℕ) (es : List Named) (e : Named) → Under k es → k ≤ j → e.types ≤ j → Under j (es ++ e ∷ [])
under_push k j [] e u le n = (n, tt)
under_push k j (x ∷ es) e u le n = (omega (arith, u.0), under_push k j es e u.1 le n)

-- a name by its variable
pub bare_is : (k : ℕ) (es : List Named) (ps : List HPart) (n j : ℕ) (e : Named) → ps ≡ Var n ∷ [] →
    j + suc n ≡ length es → e ≡ get_or es j e → (ks : HBlks) →
    shown k e ≡ first_type ks (scope k es) (reads [] ps)
bare_is k es ps n j e is long at ks =
    name_in k es n j e long at ∙ ap (λ qs. first_type ks (scope k es) (reads [] qs)) (sym is)
