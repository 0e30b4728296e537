-- The shape of a text, and its first fault before its names are looked at.
use Rattle.std.proofs.Common.{◌≡◌, ℕ, ◌+◌, ◌≤◌, List, [], ◌∷◌, length, slice_get, drop, refl, sym, ◌∙◌, ap, subst}
use Rattle.std.proofs.Common.{Option, Some, None}
use Rattle.text_core.specs.Table.{Verdict, Fine, Unexpected, Passed, bounded, whole}
use Rattle.text_core.specs.Verdicts.{Says}
use Rattle.text_core.proofs.Going.{next_is, no_next}
use Rattle.t_types.specs.WellFormed.{max_number}
use Rattle.t_terms.specs.declared.fault.TCode.{TCode}
use Rattle.t_terms.specs.declared.fault.TCode.TheVariants.{T03, M1}
use Rattle.t_terms.specs.declared.fault.TFault.{TFault}
use Rattle.t_terms.specs.declared.fault.TFault.TheVariants.{Memory, Refused}
use Rattle.t_text.specs.declared.token.Token.{Token}
use Rattle.t_text.specs.Tokens.{IsCut}
use Rattle.t_text.specs.Raw.{RawItem}
use Rattle.t_text.specs.Grammar.{Program}
use Rattle.t_text.specs.GrammarTable.{table, OfItems}
use Rattle.t_text.specs.Text.{most_open, FirstFault, in_tokens, in_names, unexpected, cut_short, too_deep, IsFirstFault}
use Rattle.t_text.proofs.Instance.{assembly_exact}
use Rattle.t_text.specs.Cut.{IsTokenFault}
use Rattle.t_text.specs.NameFaults.{program_faults}
use Rattle.t_reader.specs.Resolve.{StopsAt, IsShape, place_at}

pub token_fault : (text : List ℕ) (f : TFault) → IsTokenFault text f → IsFirstFault text f
token_fault text Memory h = tt
token_fault text (Refused c span) h =
    subst (λ (x : TCode). FirstFault text x span) (sym h.is_code) (in_tokens h.why h.wrong)

says : (w : List Token) (v : Verdict table) → bounded table most_open w (whole table w) ≡ v → Says table most_open w v
says w v e = subst (λ (x : Verdict table). Says table most_open w x) e (assembly_exact most_open w)

pub shaped : (text : List ℕ) (w : List Token) (raw : List RawItem) → IsCut text w →
    bounded table most_open w (whole table w) ≡ Fine (OfItems raw ∷ []) → length w ≤ max_number → IsShape text raw
shaped text w raw c e l =
    let h = says w (Fine (OfItems raw ∷ [])) e in
    let q : h.value ≡ raw = let z = h.is in cc in
    record {
      tokens = w;
      cut = c;
      shape = subst (λ (x : List RawItem). Program w x) q h.shape;
      within = h.within;
      short = l;
    }

pub unexpected_fault : (text : List ℕ) (w : List Token) (j : ℕ) → IsCut text w →
    bounded table most_open w (whole table w) ≡ Unexpected (drop j w) → FirstFault text T03 (place_at text w j)
unexpected_fault text w j c e = by_next (slice_get w j) refl
  where
    by_next : (o : Option Token) → slice_get w j ≡ o → FirstFault text T03 (place_at text w j)
    by_next None q =
        let f : bounded table most_open w (whole table w) ≡ Unexpected [] =
        e ∙ ap (λ (x : List Token). Unexpected x) (no_next w j q) in
        rw q (cut_short c (says w (Unexpected []) f))
    by_next (Some k) q =
        let f : bounded table most_open w (whole table w) ≡ Unexpected (k ∷ drop (j + 1) w) =
        e ∙ ap (λ (x : List Token). Unexpected x) (next_is w j k q) in
        let s = says w (Unexpected (k ∷ drop (j + 1) w)) f in rw q (unexpected c s.1)

pub deep_fault : (text : List ℕ) (w : List Token) (j : ℕ) → IsCut text w →
    bounded table most_open w (whole table w) ≡ Passed (drop j w) → FirstFault text M1 (place_at text w j)
deep_fault text w j c e = by_next (slice_get w j) refl
  where
    by_next : (o : Option Token) → slice_get w j ≡ o → FirstFault text M1 (place_at text w j)
    by_next None q =
        let f : bounded table most_open w (whole table w) ≡ Passed [] =
        e ∙ ap (λ (x : List Token). Passed x) (no_next w j q) in
        absurd (says w (Passed []) f)
    by_next (Some k) q =
        let f : bounded table most_open w (whole table w) ≡ Passed (k ∷ drop (j + 1) w) =
        e ∙ ap (λ (x : List Token). Passed x) (next_is w j k q) in
        let s = says w (Passed (k ∷ drop (j + 1) w)) f in rw q (too_deep c s.1)

-- the first fault of names
pub named_fault : (text : List ℕ) (w : List Token) (raw : List RawItem) (f : TFault) → IsCut text w →
    bounded table most_open w (whole table w) ≡ Fine (OfItems raw ∷ []) →
    StopsAt (program_faults text raw) f → IsFirstFault text f
named_fault text w raw Memory c e s = tt
named_fault text w raw (Refused code span) c e s =
    let h = says w (Fine (OfItems raw ∷ [])) e in
    let q : h.value ≡ raw = let z = h.is in cc in
    in_names c (subst (λ (x : List RawItem). Program w x) q h.shape) h.within s.1
