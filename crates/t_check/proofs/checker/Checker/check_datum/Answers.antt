use Rattle.std.proofs.Common.{ap, sym, subst, refl, ◌∙◌, arith, length, List, Result, true≢false}
use Rattle.std.proofs.lemmas.Result.{err_from_is_err_and}
use Rattle.t_types.specs.Tree.{Ty}
use Rattle.t_types.specs.Fits.{Fits}
use Rattle.t_types.specs.Read.{tree}
use Rattle.t_terms.specs.Read.{datum}
use Rattle.t_terms.specs.ReadProgram.{program}
use Rattle.t_terms.specs.declared.fault.TCode.TheVariants.{T13}
use Rattle.t_intern.specs.Nodes.{at}
use Rattle.t_intern.proofs.Growing.{grown_at, grown_length}
use Rattle.t_known.specs.Known.{known}
use Rattle.t_rules.specs.Faults.{DatumFaultWith}
use Rattle.t_check.specs.Verdict.{FormedValue, IsDatum}
use Rattle.t_known.specs.declared.refusal.Refusal.{Refusal}
use Rattle.t_known.proofs.Noting.{empty_known}
use Rattle.t_check.proofs.Typing.{says_types, datum_ok, datum_unfit, datum_fault}
use Rattle.t_check.proofs.checker.Checker.check_datum.Goals as goal

pub type_of_value-requires-clause-value : goal.type_of_value-requires-clause-value
type_of_value-requires-clause-value c =
    subst (λ n. FormedValue c.args.self.now.program.now n (datum c.args.field.now).value)
    (sym c.requires.names) c.requires.formed.0

pub returns-then-fits_once-clause-word : goal.returns-then-fits_once-clause-word
returns-then-fits_once-clause-word c =
    let ts = c.args.types.now in
    let us = c.type_of_value.new.types in
    let vs = c.number.new.self in
    let k = c.args.self.now.registers in
    let typed = c.in_ok-found.ensures.typed in
    let found = grown_at us vs c.in_ok-wanted.ensures.grown c.in_ok-found.found typed.0 in
    let fits = subst (λ (t : Ty). Fits t (tree c.args.field.now.1)) found
    (subst (Fits (at vs c.in_ok-found.found)) c.in_ok-wanted.ensures.number.1
    (c.if-fits_once.ensures.fit.0 refl)) in
    datum_ok (program c.args.self.now.program.now) k.names (known ts k) c.requires.names
    (empty_known ts k c.requires.empty) (datum c.args.field.now) (at us c.in_ok-found.found) typed.1 fits
    c.requires.formed.2

pub returns-clause-word : goal.returns-clause-word
returns-clause-word c =
    let P = program c.args.self.now.program.now in
    let ts = c.args.types.now in
    let us = c.type_of_value.new.types in
    let vs = c.number.new.self in
    let ws = c.fits_once.new.self in
    let k = c.args.self.now.registers in
    let x = datum c.args.field.now in
    let n = c.in_ok-found.found in
    let m = c.in_ok-wanted.wanted in
    let typed = c.in_ok-found.ensures.typed in
    let same = c.if-fits_once.ensures.same in
    let own = grown_at us vs c.in_ok-wanted.ensures.grown n typed.0 in
    let wanted = c.in_ok-wanted.ensures.number.1 in
    let there = c.in_ok-wanted.ensures.number.0 in
    let before = typed.0 in
    let longer = grown_length us vs c.in_ok-wanted.ensures.grown in
    let as_long = ap (λ (xs : List Ty). length xs) same in
    subst (λ (r : Result (Unit {0}) Refusal). IsDatum P ws x r) (sym c.at_odds.ensures)
    (says_types ws T13 0 x.span (DatumFaultWith P x) m n x.ty (at us n) (omega arith) (omega arith)
    (ap (λ (xs : List Ty). at xs m) same ∙ wanted) (ap (λ (xs : List Ty). at xs n) same ∙ own)
    (datum_unfit P k.names (known ts k) c.requires.names (empty_known ts k c.requires.empty) x (at us n) typed.1
    (λ h. true≢false
    (sym (c.if-fits_once.ensures.fit.1
    (subst (λ (t : Ty). Fits t (at vs m)) (sym own) (subst (Fits (at us n)) (sym wanted) h)))))))

pub returns-in_err-found-clause-word : goal.returns-in_err-found-clause-word
returns-in_err-found-clause-word c =
    let ts = c.args.types.now in
    let k = c.args.self.now.registers in
    let p = err_from_is_err_and c.from_residual.result c.from_residual.ensures.1 in
    rw (p.1, p.2)
    (datum_fault (program c.args.self.now.program.now) k.names (known ts k) c.requires.names
    (empty_known ts k c.requires.empty) (datum c.args.field.now) c.type_of_value.new.types c.in_err-found.field-0.0
    c.in_err-found.ensures.typed)
