use Rattle.std.proofs.Common.{◌-◌, ◌∙◌, length, arith}
use Rattle.t_types.specs.Read.{file}
use Rattle.t_emit.proofs.Chosen.{typed_in, typed_out}
use Rattle.t_emit.proofs.headers.put_variable.Goals as goal

pub returns-then-n-count : goal.returns-then-n-count
returns-then-n-count c =
    let es = c.args.vars.now in
    let i = length es - 1 - c.args.n in
    c.in_ok-put_entry.ensures
    ∙ typed_in c.args.n es c.args.names i c.index-vars-count.result (file c.args.map.now.entries)
    (omega (arith, c.if-n-count.true)) c.index-vars-count.is

pub returns : goal.returns
returns c =
    typed_out c.args.n c.args.vars.now c.args.names (file c.args.map.now.entries) (omega (arith, c.if-n-count.false))
