use Rattle.std.proofs.Common.{◌∙◌, sym, ap}
use Rattle.std.specs.Prelude.{◌==◌}
use Rattle.a_terms.specs.NodeTrees.{base}
use Rattle.a_terms.specs.declared.nodes.ABase.{ABase}
use Rattle.t_gen_rules.specs.Gen.{reads}
use Rattle.t_emit.specs.Code.{places}
use Rattle.t_emit.proofs.Emitted.{reads_base}
use Rattle.t_emit.proofs.calls.names.Goals as goal

pub returns-in-Var : goal.returns-in-Var
returns-in-Var c =
    let m = places c.args.vars.now c.args.saved.now in
    ap (λ q. q == c.args.r) c.register.ensures ∙ sym (ap (λ (b : ABase). reads c.args.r m (base b)) c.in-Var.is)
    ∙ reads_base c.args.r m (base c.args.v.now.base) c.args.v.now.wraps.items

pub returns-in-Int : goal.returns-in-Int
returns-in-Int c =
    let m = places c.args.vars.now c.args.saved.now in
    sym (ap (λ (b : ABase). reads c.args.r m (base b)) c.in-Int.is)
    ∙ reads_base c.args.r m (base c.args.v.now.base) c.args.v.now.wraps.items

pub returns-in-Label : goal.returns-in-Label
returns-in-Label c =
    let m = places c.args.vars.now c.args.saved.now in
    sym (ap (λ (b : ABase). reads c.args.r m (base b)) c.in-Label.is)
    ∙ reads_base c.args.r m (base c.args.v.now.base) c.args.v.now.wraps.items

pub returns-in-Data : goal.returns-in-Data
returns-in-Data c =
    let m = places c.args.vars.now c.args.saved.now in
    sym (ap (λ (b : ABase). reads c.args.r m (base b)) c.in-Data.is)
    ∙ reads_base c.args.r m (base c.args.v.now.base) c.args.v.now.wraps.items
