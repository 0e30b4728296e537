-- The program of an assembly text that is no longer than a memory holds keeps the bounds on programs, since it is what
-- the reader's trees stand for.
use Rattle.std.proofs.Common.{ℕ, ◌+◌, ◌≤◌, List, length, sym, subst, arith}
use Rattle.std.specs.Prelude.{drop}
use Rattle.std.proofs.lemmas.List.{length-append, length-drop}
use Rattle.std.proofs.Math.Seq.{drop-append_seam}
use Rattle.text_core.specs.Tokens.{Tokens, Cut, c_end, c_gap, c_token, Next, n_spelling, Spelling, Spells, s_word}
use Rattle.text_core.specs.Tokens.{s_plain, s_negative, s_sign, s_pair}
use Rattle.t_types.specs.WellFormed.{max_number}
use Rattle.t_terms.specs.Spanned.{SProg, plain_program}
use Rattle.t_terms.specs.Whole.{WellFormedProgram}
use Rattle.t_text.specs.Text.{Stands}
use Rattle.t_reader.proofs.Fitting.{fits_Program, kept_cut}
use Rattle.t_reader.proofs.Well.{whole_program}

-- a text has no more tokens than bytes
spelled_once : {g : Tokens} {u : List ℕ} {k : g.Kind} → Spells g u k → 1 ≤ length u
spelled_once (s_word b s p q) = omega arith
spelled_once (s_plain b s p) = omega arith
spelled_once (s_negative b s p) = omega arith
spelled_once (s_sign b k e) = omega arith
spelled_once (s_pair b c k e) = omega arith

shorter : {g : Tokens} {s : List ℕ} {k : g.Kind} {n : ℕ} → Next g s (Spelling k n) →
    1 + length (drop n s) ≤ length s
shorter (n_spelling {u} {r} gap long) =
    let some = spelled_once long.spells in
    let left = drop-append_seam u r in
    let sum = length-append u r in
    rw left (omega (arith, some, sum))

few_tokens : {g : Tokens} {i : ℕ} {s : List ℕ} {w : List g.Token} → Cut g i s w → length w ≤ length s
few_tokens c_end = omega arith
few_tokens (c_gap {i} {n} {s} next rest) =
    let h = few_tokens rest in
    let l = length-drop n s in
    omega (arith, h, l)
few_tokens (c_token {i} {n} {k} {s} next keeps rest) =
    let h = few_tokens rest in
    let l = shorter next in
    omega (arith, h, l)

pub whole_text : (text : List ℕ) (P : SProg) → length text ≤ max_number → Stands text P →
    WellFormedProgram (plain_program P)
whole_text text P short h =
    let few = few_tokens h.cut in
    let k = fits_Program h.shape (kept_cut h.cut) (omega (arith, few, short)) in
    subst (λ (P : SProg). WellFormedProgram (plain_program P)) (sym h.is) (whole_program text h.raw k.0 k.1 h.named)
