use Rattle.t_types.proofs.Trees.{tree_is_tuple}
use Rattle.t_types.proofs.FitsLaws.{fits_tuples}
use Rattle.t_types.proofs.FitPlaces.{tuples_fit}
use Rattle.t_types.proofs.fitting.fits.Goals as goal

pub returns-in-Tuple-Tuple : goal.returns-in-Tuple-Tuple
returns-in-Tuple-Tuple c =
    let a = tree_is_tuple _ _ _ c.in-Tuple-Tuple.is-0 c.deref.ensures.value in
    let b = tree_is_tuple _ _ _ c.in-Tuple-Tuple.is-1 c.deref-in-Tuple-Tuple.ensures.value in
    let is = c.fields_fit.ensures in
    ((λ h. fits_tuples _ _ _ _ a b (is.0 h)), (λ h. is.1 (tuples_fit _ _ _ _ a b h)))
