use Rattle.std.proofs.Common.{◌≡◌, ◌∙◌, List, ◌∷◌, ◌++◌, suc, ap, ap₂, refl}
use Rattle.k_terms.specs.K as K
use Rattle.k_terms.specs.Stream.{NCode}
use Rattle.k_pass.specs.Emit.{Scope}
use Rattle.k_pass.specs.Machine.{written}
use Rattle.k_pass.specs.declared.work.Atom.TheVariants as A
use Rattle.k_pass.specs.declared.work.Control.TheVariants as C
use Rattle.k_pass.specs.declared.work.Frame.{Frame}
use Rattle.k_pass.proofs.hand.open_rest.Goals as goal

pub returns : goal.returns
returns c =
    let one : c.in_ok-level.level ≡ suc c.args.depth = c.in_ok-level.ensures in
    let two : c.in_ok-inside.inside ≡ suc (suc c.args.depth) = c.in_ok-inside.ensures ∙ ap suc one in (
      ap₂ (λ l d. C.Give (A.Level l) d) one two,
      record {
        writes = λ ns. c.in_ok-put.ensures ns
            ∙ ap (λ (u : K.KTys). written c.args.work.now ++ NCode c.args.depth c.args.work.now.types 0 u ∷ ns)
            c.in_ok-args.ensures;
        same_frames = refl {A = List Frame};
        keeps = c.in_ok-push.ensures.items;
        same_place = refl {A = Scope};
        same_types = refl;
      },
    )
