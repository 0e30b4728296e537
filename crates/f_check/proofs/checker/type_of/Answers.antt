use Rattle.std.proofs.Common.{◌≡◌, ◌<◌, ◌≤◌, ◌-◌, ◌++◌, ◌∷◌, [], ℕ, List, length, ◌∙◌, ap, sym, subst, arith, rules}
use Rattle.std.proofs.lemmas.List.{length-set, nil_from_length}
use Rattle.f_terms.specs.Read.{tree}
use Rattle.f_terms.specs.ReadTerm.{count}
use Rattle.f_terms.specs.declared.types.FType.{FType}
use Rattle.f_check.proofs.Noting.{Known, at_first, starts, last_open, given_at, noted_now, all_noted, after_begin}
use Rattle.f_check.proofs.Noting.{after_resume, ended}
use Rattle.f_check.specs.Walk.{Leads, work}
use Rattle.f_check.proofs.Steps.{offered}
use Rattle.f_check.proofs.checker.type_of.Goals as goal

pub resume-requires : goal.resume-requires
resume-requires c =
    (offered c.args.term.now c.loop-control.state c.pop.new.self c.in-Some.frame c.in-Give.ty c.in-Give.bound
    c.in-Give.span c.in-Some.ensures.items
    (subst (Leads c.args.term.now c.loop-control.state) c.in-Give.is c.loop-control.invariant.leads)).0

pub loop-control-smaller : goal.loop-control-smaller
loop-control-smaller c =
    let f = c.args.term.now in
    let less = c.in_ok-control-in-Some.ensures.goes.1 in
    let same = (offered f c.loop-control.state c.pop.new.self c.in-Some.frame c.in-Give.ty c.in-Give.bound
    c.in-Give.span c.in-Some.ensures.items
    (subst (Leads f c.loop-control.state) c.in-Give.is c.loop-control.invariant.leads)).1 in
    subst (λ m. work f c.resume.new.state c.in_ok-control-in-Some.control < m)
    (same ∙ ap (work f c.loop-control.state) (sym c.in-Give.is)) less

pub loop-control-init : goal.loop-control-init
loop-control-init c =
    let f = c.args.term.now in
    let root = ap (λ k. k - 1) c.count-root.ensures.number in
    let long = c.in_ok-types.ensures.right in
    record {
      leads = starts f c.new.result c.new-2.result _ c.new.ensures.items c.new-2.ensures.items c.requires.closed
          c.requires.nodes root;
      table = omega (arith, long, c.count.ensures.number);
      known = at_first f c.in_ok-types.types.items c.new.result.items c.follow.new.path.items _ c.new.ensures.items
          (c.in_ok-follow.ensures.right
          ∙ ap (λ (ks : List ℕ). ks ++ (c.count-root.result - 1) ∷ []) c.new-path.ensures.items) root;
    }

pub loop-control-preserved : goal.loop-control-preserved
loop-control-preserved c =
    let f = c.args.term.now in
    let l = c.loop-control in
    let ty = c.in-Give.ty in
    let span = c.in-Give.span in
    let leads = subst (Leads f l.state) c.in-Give.is l.invariant.leads in
    let known = subst (Known f l.types.items l.state.frames.items l.path.items) c.in-Give.is l.invariant.known in
    let put = c.in_ok-note-in-Give.ensures.right in
    let noted = noted_now f l.types.items c.note.new.types.items l.state l.path.items c.close-node.new.path.items
    c.close-node.result ty c.in-Give.bound span l.invariant.table known leads c.close-node.ensures put in
    record {
      leads = c.in_ok-control-in-Some.ensures.goes.0;
      table = subst (λ (us : List FType). count f ≤ length us) (sym put.1)
          (omega (arith, l.invariant.table, length-set l.types.items c.close-node.result put.0));
      known = subst
          (λ (ks : List ℕ). Known f c.note.new.types.items c.resume.new.state.frames.items ks
          c.in_ok-control-in-Some.control) (sym c.in_ok-follow-in-Some.ensures.right)
          (after_resume f c.note.new.types.items l.state c.pop.new.self.items c.resume.new.state.frames.items
          c.in-Some.frame
          l.path.items c.close-node.new.path.items c.close-node.result ty c.in-Give.bound span
          c.in_ok-control-in-Some.control c.in-Some.ensures.items c.close-node.ensures noted leads
          c.in_ok-control-in-Some.ensures.frames);
    }

pub loop-control-preserved-in-Continue-branch-4 : goal.loop-control-preserved-in-Continue-branch-4
loop-control-preserved-in-Continue-branch-4 c =
    let f = c.args.term.now in
    let l = c.loop-control in
    let known = subst (Known f l.types.items l.state.frames.items l.path.items) c.in-Run.is l.invariant.known in
    record {
      leads = c.in_ok-control-in-Run.ensures.goes.0;
      table = l.invariant.table;
      known = subst
          (λ (ks : List ℕ). Known f l.types.items c.begin.new.state.frames.items ks c.in_ok-control-in-Run.control)
          (sym c.in_ok-follow-in-Run.ensures.right)
          (after_begin f l.types.items l.state.frames.items c.begin.new.state.frames.items l.path.items c.in-Run.i
          c.in_ok-control-in-Run.control known c.in_ok-control-in-Run.ensures.frames);
    }

pub close-node-requires : goal.close-node-requires
close-node-requires c =
    let l = c.loop-control in
    last_open c.args.term.now l.types.items l.state.frames.items l.path.items c.in-Give.ty c.in-Give.bound
    c.in-Give.span
    (subst (Known c.args.term.now l.types.items l.state.frames.items l.path.items) c.in-Give.is l.invariant.known)

pub note-requires : goal.note-requires
note-requires c =
    let f = c.args.term.now in
    let l = c.loop-control in
    let leads = subst (Leads f l.state) c.in-Give.is l.invariant.leads in
    let known = subst (Known f l.types.items l.state.frames.items l.path.items) c.in-Give.is l.invariant.known in
    let lt = given_at f l.types.items l.state l.path.items c.close-node.new.path.items c.close-node.result c.in-Give.ty
    c.in-Give.bound c.in-Give.span known leads c.close-node.ensures in
    record { inside = lt; table = omega (arith, lt, l.invariant.table) }

pub returns-in-None : goal.returns-in-None
returns-in-None c =
    let f = c.args.term.now in
    let l = c.loop-control in
    let leads = subst (Leads f l.state) c.in-Give.is l.invariant.leads in
    let known = subst (Known f l.types.items l.state.frames.items l.path.items) c.in-Give.is l.invariant.known in
    let put = c.in_ok-note-in-Give.ensures.right in
    let noted = noted_now f l.types.items c.note.new.types.items l.state l.path.items c.close-node.new.path.items
    c.close-node.result c.in-Give.ty c.in-Give.bound c.in-Give.span l.invariant.table known leads
    c.close-node.ensures put in
    let few : length l.state.frames.items ≡ 0 = search (rules, c.in-None.ensures.cases) in
    let no_frames = nil_from_length l.state.frames.items few in (
      ended f l.state c.in-Give.ty c.in-Give.bound c.in-Give.span no_frames leads,
      subst (λ (us : List FType). count f ≤ length us) (sym put.1)
          (omega (arith, l.invariant.table, length-set l.types.items c.close-node.result put.0)),
      all_noted f c.note.new.types.items l.state.frames.items l.path.items c.close-node.result
          (tree c.in-Give.ty) no_frames noted,
    )
