use Rattle.std.proofs.Common.{◌≡◌, ◌∙◌, ◌-◌, ◌<◌, ℕ, sym, ap, subst, arith, Some, length, get_or, map}
use Rattle.std.proofs.lemmas.Result.{IfOk-weaker}
use Rattle.f_terms.specs.Ty.{NoTys, shift, Below}
use Rattle.f_terms.specs.Limits.{Within}
use Rattle.f_terms.specs.Typing.{ty_at}
use Rattle.f_terms.specs.Read.{tree}
use Rattle.f_check.specs.declared.scope.Binder.{Binder}
use Rattle.f_check.specs.Scopes.{bound, names, IsBound, IsScope}
use Rattle.f_check.proofs.Types.{shift_fits}
use Rattle.f_check.proofs.Finds.{shifted_type}
use Rattle.f_check.proofs.Scoping.{name_at, scope_at}
use Rattle.f_check.proofs.scope.find.Goals as goal

-- the name's type
is_bound : (n : ℕ) (bs : _) (name : ℕ) (b : Binder) → IsScope n (map bound bs) → name < length bs →
    b ≡ get_or bs (length bs - 1 - name) b → IsBound n (bound b)
is_bound n bs name b ok lt is =
    subst (λ x. IsBound n (bound x)) (sym is) (scope_at n bs (length bs - 1 - name) b (omega (arith, lt)) ok)

is_name : (n : ℕ) (bs : _) (name : ℕ) (b : Binder) → name < length bs → b ≡ get_or bs (length bs - 1 - name) b →
    ty_at (names n NoTys (map bound bs)) name ≡ Some (shift (n - b.around) 0 (tree b.ty))
is_name n bs name b lt is =
    name_at n NoTys bs name (length bs - 1 - name) b (omega (arith, lt))
    ∙ ap (λ (x : Binder). Some (shift (n - x.around) 0 (tree x.ty))) (sym is)

pub overflow_sub-by : goal.overflow_sub-by
overflow_sub-by c =
    (is_bound c.args.around c.args.scope.now c.args.name _ c.requires.scope c.requires.known c.index-scope-scope.is).0

pub shift-requires : goal.shift-requires
shift-requires c =
    let b = c.index-scope-scope.result in
    let ok = is_bound c.args.around c.args.scope.now c.args.name b c.requires.scope c.requires.known
    c.index-scope-scope.is in
    let le = ok.0 in
    shift_fits (c.args.around - b.around) b.around (tree b.ty) (omega (arith, le, c.requires.room)) ok.1 ok.2.0

pub returns : goal.returns
returns c =
    let b = c.index-scope-scope.result in
    let n = c.args.around in
    let ok = is_bound n c.args.scope.now c.args.name b c.requires.scope c.requires.known c.index-scope-scope.is in
    let t = tree b.ty in
    IfOk-weaker c.shift.result (λ r. tree r ≡ shift (n - b.around) 0 t)
    (λ r. (ty_at (names n NoTys (map bound c.args.scope.now)) c.args.name ≡ Some (tree r)) × Below n (tree r)
    × Within (tree r))
    (λ r e. let w = shifted_type n b.around t (tree r) ok.0 ok.1 ok.2 e in
    (is_name n c.args.scope.now c.args.name b c.requires.known c.index-scope-scope.is ∙ ap Some (sym e), w.0, w.1))
    c.shift.ensures
