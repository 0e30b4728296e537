use Rattle.std.proofs.Common.{◌∙◌, sym, ap, subst}
use Rattle.t_terms.specs.Spanned.{SProg, plain_program}
use Rattle.t_terms.specs.ReadProgram.{spanned_program}
use Rattle.t_rules.specs.Rules.{Accepted}
use Rattle.listing.specs.Begun.{AreBlocksTo, IsListingTo}
use Rattle.listing.proofs.Moved.{no_listing, whole_listing}
use Rattle.listing.proofs.begun.listing_to.Goals as goal

pub returns-then-is_before_blocks : goal.returns-then-is_before_blocks
returns-then-is_before_blocks c =
    subst (IsListingTo c.args.text.now (spanned_program c.args.program) c.args.place) (sym c.new.ensures.items)
    (no_listing c.args.text.now (spanned_program c.args.program) c.args.place (sym c.if-is_before_blocks.ensures))

pub seal-checked-requires : goal.seal-checked-requires
seal-checked-requires c =
    ∣ subst (λ (P : SProg). Accepted (plain_program P)) (sym c.in_ok-shorter.ensures)
    (c.cut_is_accepted.ensures (spanned_program c.args.program) c.requires.0 c.args.place c.args.program.whole.0
    c.requires.1 (sym c.is_before_blocks.ensures ∙ c.if-is_before_blocks.false)) ∣₁

pub returns : goal.returns
returns c =
    let same = ap spanned_program c.seal-checked.ensures ∙ c.in_ok-shorter.ensures in
    whole_listing c.known_before.ensures c.args.text.now (spanned_program c.args.program) c.args.place
    c.in_ok-page.page.items (sym c.is_before_blocks.ensures ∙ c.if-is_before_blocks.false)
    (subst (λ (P : SProg).
    AreBlocksTo c.args.text.now (plain_program P) c.args.place 0 P.blocks c.in_ok-page.page.items) same
    c.in_ok-page.ensures)
