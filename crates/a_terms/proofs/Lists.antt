-- Data, and what is put around a value, item by item.
use Rattle.std.proofs.Common.{◌≡◌, ◌++◌, ◌∷◌, suc, List, [], length, refl, ap}
use Rattle.a_terms.specs.Tree as a
use Rattle.a_terms.specs.NodeTrees.{a_data, wrapped, wrap}
use Rattle.a_terms.specs.declared.nodes.AData.{AData}
use Rattle.a_terms.specs.declared.nodes.AWrap.{AWrap}

pub length_data : (ds : List AData) → length (a_data ds) ≡ length ds
length_data [] = refl
length_data (d ∷ ds) = ap suc (length_data ds)

pub wrapped_snoc : (v : a.AVal) (ws : List AWrap) (w : AWrap) → wrapped v (ws ++ w ∷ []) ≡ wrap w (wrapped v ws)
wrapped_snoc v [] w = refl
wrapped_snoc v (x ∷ ws) w = wrapped_snoc (wrap x v) ws w
