use Rattle.std.proofs.Common.{◌≡◌, ◌++◌, ◌∙◌, ℕ, List, ap, append_assoc, length, take, nat_lt, min}
use Rattle.std.proofs.lemmas.List.{take_min}
use Rattle.page_core.specs.Page.{dots}
use Rattle.listing.specs.Listing.{cut}
use Rattle.listing.proofs.rows.write_cut.Goals as goal

both : (old shown end text : List ℕ) (n : ℕ) → n ≡ min 1000 (length text) → shown ≡ old ++ take n text →
    end ≡ shown ++ dots (nat_lt 1000 (length text)) → end ≡ old ++ cut text
both old shown end text n few is ends =
    let more = dots (nat_lt 1000 (length text)) in
    ends
    ∙ ap (λ t. t ++ more) (is ∙ ap (λ k. old ++ take k text) few ∙ ap (λ t. old ++ t) (take_min 1000 text))
    ∙ append_assoc old (take 1000 text) more

pub returns : goal.returns
returns c =
    both c.args.page.now.items c.extend_from_slice.new.self.items c.write_dots.new.page.items c.args.text.now
    c.min-count.result c.min-count.ensures c.in_ok-extend_from_slice.ensures.items c.in_ok-write_dots.ensures
