use Rattle.std.proofs.Common.{refl}
use Rattle.talc_words.proofs.description.talc_words.Goals as goal

pub returns : goal.returns
returns c =
    let compile = c.with_words-all.ensures _ _ c.bare_words.ensures c.compile_words.ensures refl in
    let check = c.with_words-all-2.ensures _ _ compile c.check_words.ensures refl in
    let run = c.with_words-all-3.ensures _ _ check c.run_words.ensures refl in
    let type_of = c.with_words-all-4.ensures _ _ run c.typeof_words.ensures refl in
    let eval = c.with_words-all-5.ensures _ _ type_of c.eval_words.ensures refl in
    let generate = c.with_words-all-6.ensures _ _ eval c.gen_words.ensures refl in
    let upgrade = c.with_words-all-7.ensures _ _ generate c.upgrade_words.ensures refl in
    let trace = c.with_words-all-8.ensures _ _ upgrade c.trace_words.ensures refl in
    let show = c.with_words-all-9.ensures _ _ trace c.show_words.ensures refl in
    let explain = c.with_words-all-10.ensures _ _ show c.explain_words.ensures refl in
    let cost = c.with_words-all-11.ensures _ _ explain c.cost_words.ensures refl in
    let listing = c.with_words-all-12.ensures _ _ cost c.listing_words.ensures refl in
    let types = c.with_words-all-13.ensures _ _ listing c.types_words.ensures refl in
    c.with_words.ensures _ _ types c.native_words.ensures refl
