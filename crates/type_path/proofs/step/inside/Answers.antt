use Rattle.type_path.proofs.Steps.{read_pushed}
use Rattle.type_path.proofs.step.inside.Goals as goal

pub returns-in_ok-push-in-Some : goal.returns-in_ok-push-in-Some
returns-in_ok-push-in-Some c =
    read_pushed c.args.found c.in-Some.path c.push.new.self.items c.args.step c.in-Some.is
    c.in_ok-push-in-Some.ensures.items
