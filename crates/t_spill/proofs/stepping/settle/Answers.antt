use Rattle.std.proofs.Common.{◌≡◌, ◌<◌, rules, refl, sym, ap, ◌∙◌, subst}
use Rattle.std.proofs.lemmas.Result.{on_ok_weaker}
use Rattle.t_types.specs.Read.{tree, file_tree}
use Rattle.t_terms.specs.Tree.{names_after}
use Rattle.t_terms.specs.Read.{instr}
use Rattle.t_terms.specs.ReadProgram.{program}
use Rattle.t_spill_rules.specs.Spill.{Held, into, sp, live, next}
use Rattle.t_spill_code.specs.Homes.{Sets}
use Rattle.t_spill.specs.Finishing.{used, Filled, Gathered, Frames}
use Rattle.t_spill.specs.Known.{given}
use Rattle.t_spill.specs.Ways.{way_tree}
use Rattle.t_spill.proofs.Beside.{formed}
use Rattle.t_spill.proofs.Knowing.{typable_read, given_alone}
use Rattle.t_spill.proofs.Settled.{settle_stays, settle_holds, settle_fills, settle_gathers, frames, fills_defines}
use Rattle.t_spill.proofs.Settled.{way_told}
use Rattle.t_spill.proofs.stepping.settle.Goals as goal

pub returns-in-Stays : goal.returns-in-Stays
returns-in-Stays c = λ n y x s b e st.
    let w = c.args.walk.now in
    let i = instr c.args.i.now in
    let count : used w.code ≡ c.len-used.result = search rules in
    settle_stays (program c.args.program.now) n y x c.args.walk.now (instr c.args.i.now) s b
    (way_told w.code.homes.split.low (used w.code) c.len-used.result i s c.args.stored _ count st
    (sym c.decide.ensures ∙ ap way_tree c.in-Stays.is))

pub returns-in-Holds : goal.returns-in-Holds
returns-in-Holds c =
    let count : used c.args.walk.now.code ≡ c.len-used.result = search rules in
    on_ok_weaker c.hold.result
    (λ f n y x s b e st.
    let P = program c.args.program.now in
    let w = c.args.walk.now in
    let i = instr c.args.i.now in
    settle_holds P n y x w c.hold.new.self i s b
    (way_told w.code.homes.split.low (used w.code) c.len-used.result i s c.args.stored _ count st
    (sym c.decide.ensures ∙ ap way_tree c.in-Holds.is))
    (subst (λ r. Sets w.code.homes c.hold.new.self r (Held (into w.code.homes.split.low r))) c.defined.ensures f))
    c.hold.ensures

pub slot_type-requires : goal.slot_type-requires
slot_type-requires c =
    let h = c.requires in
    typable_read (program c.args.program.now) h.0 h.1 (file_tree c.args.read.now) (instr c.args.i.now) h.6 h.5

pub fill-requires : goal.fill-requires
fill-requires c =
    let w = c.args.walk.now in
    let i = instr c.args.i.now in
    let count : used w.code ≡ c.len-used.result = search rules in
    let h = c.requires in
    subst (λ r. w.code.homes.split.low < r) (sym c.defined-in-Fills.ensures)
    (fills_defines w.code.homes.split.low (used w.code) i h.3
    (way_told w.code.homes.split.low (used w.code) c.len-used.result i h.3 c.args.stored _ count h.7
    (sym c.decide.ensures ∙ ap way_tree c.in-Fills.is)))

pub returns-in_ok-ty-in-Fills : goal.returns-in_ok-ty-in-Fills
returns-in_ok-ty-in-Fills c =
    let count : used c.args.walk.now.code ≡ c.len-used.result = search rules in
    on_ok_weaker c.fill.result
    (λ f n y x s b e st.
    let P = program c.args.program.now in
    let w = c.args.walk.now in
    let i = instr c.args.i.now in
    let new = record w { code = c.fill.new.code } in
    let t = tree c.in_ok-ty-in-Fills.ty in
    let gives = c.in_ok-ty-in-Fills.ensures ∙ ap (sp w.code.homes.split.low)
    (ap (λ z. given P z i) e ∙ given_alone P y i ∙ b.typed) in
    settle_fills P n y x w new i s t b
    (way_told w.code.homes.split.low (used w.code) c.len-used.result i s c.args.stored _ count st
    (sym c.decide.ensures ∙ ap way_tree c.in-Fills.is)) refl refl gives
    (subst (λ r. Filled w.code new.code r t) c.defined-in-Fills.ensures f))
    c.fill.ensures

pub make_frame-requires : goal.make_frame-requires
make_frame-requires c =
    let h = c.requires in
    let b = h.4 in
    let P = program c.args.program.now in
    let i = instr c.args.i.now in
    let f = formed P (names_after i h.0) (next P h.1 i) h.3 b.ready in
    (names_after i h.0, next P h.1 i, b.knows, f.0, f.1)

pub returns-in-Gathers : goal.returns-in-Gathers
returns-in-Gathers c =
    let count : used c.args.walk.now.code ≡ c.len-used.result = search rules in
    on_ok_weaker c.make_frame.result
    (λ g n y x s b e st.
    let P = program c.args.program.now in
    let w = c.args.walk.now in
    let i = instr c.args.i.now in
    let new = record w { code = c.make_frame.new.code } in
    let ws = live P (next P x i) s in
    let at = c.defined-in-Gathers in
    let framed = subst (λ r. Frames w.code.homes r ws (next P y i) (next P x i)) (sym at.ensures)
    (frames P n y x w i s b) in
    settle_gathers P n y x w new i s b
    (way_told w.code.homes.split.low (used w.code) c.len-used.result i s c.args.stored _ count st
    (sym c.decide.ensures ∙ ap way_tree c.in-Gathers.is)) refl refl
    (subst (λ r. Gathered w.code new.code r ws (next P x i)) at.ensures
    (g (names_after i n) (next P y i) ws (next P x i) b.knows b.told framed)))
    c.make_frame.ensures
