use Rattle.std.proofs.Common.{◌++◌, ◌∙◌, ℕ, List, ap}
use Rattle.talc_core.proofs.ListingLemmas.{fault_listed}
use Rattle.talc_core.proofs.commands.listed.listed_text.Goals as goal

pub returns-in-Whole : goal.returns-in-Whole
returns-in-Whole c = rw c.in-Whole.is at c.in_ok-shown.ensures

pub page_of_fault-requires : goal.page_of_fault-requires
page_of_fault-requires c =
    let rows = rw c.in-UpTo.is at c.in_ok-shown.ensures in (c.in-UpTo.fault, rows.0)

pub returns-in_ok-extend_from_slice-in-UpTo : goal.returns-in_ok-extend_from_slice-in-UpTo
returns-in_ok-extend_from_slice-in-UpTo c =
    let rows = rw c.in-UpTo.is at c.in_ok-shown.ensures in
    fault_listed c.texts_keep_laws.ensures c.args.name.now c.args.text.now c.in-UpTo.fault c.in-UpTo.rows.items _ _
    rows.0 rows.1 c.in_ok-page-in-UpTo.ensures
    (c.in_ok-extend_from_slice-in-UpTo.ensures.items
    ∙ ap (λ (page : List ℕ). c.in-UpTo.rows.items ++ page) c.deref.ensures.value)
