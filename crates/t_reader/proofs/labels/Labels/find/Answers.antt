use Rattle.std.proofs.Common.{◌≡◌, ℕ, ◌∙◌, Bor, List}
use Rattle.std.specs.Prelude.{bytes_eq}
use Rattle.indexmap.specs.IndexMap.{get_by}
use Rattle.t_reader.proofs.Labelled.{named_in_map}
use Rattle.t_reader.proofs.labels.Labels.find.Goals as goal

pub returns : goal.returns
returns c =
    let x = c.args.name.now in
    let e : c.copied.result ≡ get_by (λ (k : Bor (List ℕ)). bytes_eq x k.now) c.self.inside.targets =
    c.copied.ensures ∙ c.get.ensures.value in
    rw (e, ← c.self.view_is) (named_in_map x c.self.inside.targets)
