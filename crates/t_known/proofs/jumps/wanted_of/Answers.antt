use Rattle.std.proofs.Common.{◌≡◌, sym, subst, length}
use Rattle.std.specs.Prelude.{option_map}
use Rattle.t_types.specs.Tree.{TFile}
use Rattle.t_types.specs.Fits.{lookup}
use Rattle.t_intern.specs.Nodes.{at}
use Rattle.t_known.specs.Fitted.{Rises}
use Rattle.t_known.proofs.FilePlaces.{file_is}
use Rattle.t_known.proofs.jumps.wanted_of.Goals as goal

pub returns-in-Some-clause-there : goal.returns-in-Some-clause-there
returns-in-Some-clause-there c = c.type_in.ensures.below (length c.args.types.now) c.in-Some.ensures.1

pub returns-in-Some-clause-wanted : goal.returns-in-Some-clause-wanted
returns-in-Some-clause-wanted c = λ f e rises.
    let ts = c.args.types.now in
    let same = file_is ts c.args.code c.in-Some.regs.now f c.in-Some.ensures e in
    subst (λ (x : TFile). option_map (at ts) c.type_in.result ≡ lookup x c.args.r) same
    (c.type_in.ensures.found ts (subst Rises (sym same) rises))

pub returns-in-None-clause-wanted : goal.returns-in-None-clause-wanted
returns-in-None-clause-wanted c = λ f e rises. absurd (c.in-None.ensures 0 f e)
