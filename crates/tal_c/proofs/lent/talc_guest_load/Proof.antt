-- The guest is lent for a lifetime that is made for the call, and comes back once it is ended.
use Rattle.std.proofs.Common.{ℕ, List, [], ◌∷◌, ◌++◌, refl}
use Rattle.std.proofs.raw_atomic.Walks.{proved}
use base.Fraction.{full_share}
use base.Logic.{id⊢}
use base.Fml.{ftrue, flft, flent, fsep, fex}
use mir.Syntax.{named}
use mir.Val.{Val, vptr}
use prog.Wp.{WpFn}
use contract.Monad.{fact}
use contract.Running.{tables}
use types.Kit.{‵, raw, ◌⊛◌, some, later, prop, ◌$◌, ◌∵◌, !, qed, done, move, keep, drop, use1, use3, split, join}
use types.Kit.{fsplit, fjoin, fpack, pick, await, regoal, suffices, group}
use types.Run.{enter, of_opd, addr, stop, no_more, and_then, returns}
use types.ByLocal.{alloc_all, pass_all, free_all, look_at, get, through, sets, lands_as}
use types.SemTy.{Body}
use types.Tokens.{lft_new, lft_end}
use denote.Builtin.{u8, SliceRefOf}
use denote.Exit.{yes}
use denote.Laws.{Is, shows}
use denote.Lend.{lends_ref, ref_back}
use denote.Memory.{mem, part_at}
use denote.RattleType.{owns}
use denote.RawPtr.{Ptr, RawPtr, block_ptr, in_a_block, rawptr_vals, rawptr_Tells}
use denote.Ref.{MutRef}
use denote.Signature.{plain, types_at}
use denote.Slice.{shr_slice_vals, shr_slice_Tells}
use denote.Steps.{nothing, peeks, heard}
use denote.Triple.Call.{calls_at}
use denote.Triple.Clauses.{lasts, Lasts}
use denote.Triple.Spec.{triple_of}
use denote.Triple.Table.{framed}
use denote.Triple.Walked.{Stays, walk_of, stay_dropped, Goes-dropped, ends_at}
use Rattle.std.specs.declared.alloc.Global.{Global}
use Rattle.std.specs.contracts.alloc.Global.{the_row as Z}
use Rattle.std.proofs.alloc.Global.TheLaws.{lowers as global}
use Rattle.tal_c.specs.declared.guest.Guest.{Guest}
use Rattle.tal_c.specs.contracts.guest.Guest.{the_row as R}
use Rattle.tal_c.specs.contracts.answer.Answer.{the_row as A}
use Rattle.tal_c.specs.declared.answer.Answer.{Answer}
use Rattle.tal_c.proofs.answer.Answer.TheLaws.{the_row_laws as answer_laws}
use Rattle.tal_c.specs.Guests.{LoadTold}
use Rattle.tal_c.specs.Places.{guest_at}
use Rattle.tal_c.proofs.Loan.{lent}
use Rattle.tal_c.specs.contracts.guest.load_into as g
use Rattle.tal_c.proofs.guest.load_into.Met.{met}
use Rattle.tal_c.specs.contracts.lent.talc_guest_load as f
use Rattle.tal_c.proofs.lent.talc_guest_load.Statement.{statement}
use Rattle.tal_c.proofs.lent.talc_guest_load.Code as code

abbrev stayed : Stays f.ended.signature.params f.ended.kept
stayed = (stay_dropped _ yes, (stay_dropped _ yes, (stay_dropped _ yes, tt)))

abbrev heap_vals : Global → List Val
heap_vals h = global.lowered h ∷ []

pub talc_guest_load_spec : {M : Type 1} → statement M
talc_guest_load_spec 𝓤 𝓛 𝓜 𝓡 wired =
    let c = f.clauses 𝓛 𝓜.mem 𝓡.returns in let W = walk_of 𝓛 f.ended stayed c in let 𝓣 = tables 𝓤 𝓛.H 𝓜 𝓡 𝓡.env in
    proved 𝓛 f.ended stayed c 𝓜 𝓡 (
      Goes-dropped 𝓛 1 (plain (λ _. Z)) yes (λ κs x w. refl),
      (
        Goes-dropped 𝓛 1 (plain (λ _. RawPtr)) yes (λ κs x w. refl),
        (Goes-dropped 𝓛 1 (SliceRefOf (0 ∷ []) tt (plain (λ _. u8)) (λ _. tt)) yes (λ κs x w. refl), tt),
      ),
    )
    f.Key.name code.function (code.unfolded 𝓤 𝓛.H 𝓜 𝓡 wired)
    (λ κs. (heap_vals, (rawptr_vals, (shr_slice_vals, tt))))
    (λ κs. (global.val_is, (rawptr_Tells, (shr_slice_Tells (named 0) κs.0 u8, tt)))) (λ κs qs bounds a old are.
    let h = a.0 in let text = a.1.1.0 in let κt = κs.0 in let q = qs.0 in
    let y : Ptr → W.Ghost = λ p. (
      (
        κs,
        qs,
        bounds,
        (h, (p, (text, tt))),
        (
          heap_vals h,
          (rawptr_vals p, (shr_slice_vals text, tt)),
        ),
      ),
      old,
    ) in
    qed 𝓛 (((‵ (flft κt q) ⊛ ‵ ftrue) ⊛ ‵ (owns (types_at f.signature.params κs) a (y a.1.0).0.4))
    ∷ ‵ (guest_at a.1.0 old) ∷ []) ∵
    split ! $ move ! (1 ∷ []) $ fsplit ! $ move ! (1 ∷ []) $ fsplit ! $ drop ! $ fsplit ! $ move ! (1 ∷ []) $ drop ! $
    -- [the text; the allocator; the token; the guest]
    move ! (3 ∷ []) $ in_a_block ! a.1.0 (λ p. guest_at p old) (id⊢ 𝓤 _) (λ b o e.
    regoal ! (λ (p : Ptr). prop (WpFn 𝓤 𝓛.H 𝓣.C 𝓣.Λ code.function (heap_vals h ++
    (rawptr_vals p ++ (shr_slice_vals text ++ []))) (W.post (y p)))) e refl $
    enter ! _ _ _ _ _ $ alloc_all ! (λ l. pass_all ! refl (
      (tt, ((tt, tt), tt)),
      ((tt, tt), ((tt, (tt, (record { fits = are.1.1.0.0.1.0 }, tt))), tt)),
    ) $
    sets ! (of_opd ! (get ! refl)) refl (tt, tt) $
    sets ! (addr ! (through ! refl (stop !))) refl (tt, tt) $
    lft_new ! tt (λ α. let κ = α ∷ [] in move ! (1 ∷ []) $
    use1 𝓛 (later (some (λ (γ : ℕ). ‵ ((MutRef (named 0) κ R).own_val (lent b o γ old) (vptr b o ∷ [])) ⊛ ‵ (flent κ
    (Body (mem R) b o γ)))))
    (lends_ref 𝓛 R (named 0) κ old b o) $ await ! tt $ pick ! (λ γ. split ! $
    -- [the loan; the lender's part; the token of α; the text; the allocator; the token of the text]
    let G = triple_of 𝓛 g.signature (g.spec 𝓛 𝓜.mem 𝓡.returns) in
    let z : G.Ghost = (
      (
        (κ, (κt, tt)),
        (full_share, (q, tt)),
        tt,
        (h, (lent b o γ old, (text, tt))),
        (heap_vals h, (vptr b o ∷ [], (shr_slice_vals text, tt))),
      ),
      tt,
    ) in
    nothing ! $ move ! (4 ∷ 0 ∷ []) $ fjoin ! $ move ! (1 ∷ 0 ∷ []) $ fjoin ! $ move ! (3 ∷ 0 ∷ []) $ fjoin ! $
    move ! (2 ∷ 3 ∷ []) $ join ! $ join ! $ nothing ! $ move ! (1 ∷ 0 ∷ []) $ join ! $
    use1 𝓛 (raw (G.pre z)) (id⊢ 𝓤 (G.pre z)) $
    calls_at ! (framed 𝓤 𝓛.H 𝓜 (tables 𝓤 𝓛.H 𝓜 𝓡 𝓡.env)) G (met 𝓤 𝓛 𝓜 𝓡 (code.calls-tal_c::guest::load_into 𝓡.env
    wired)) z
    (and_then ! (get ! refl) (and_then ! (get ! refl) (and_then ! (get ! refl) (no_more !)))) (λ v.
    use1 𝓛 (later (some (λ (r : Answer). ((‵ (flft κ full_share) ⊛ (‵ (flft κt q) ⊛ ‵ ftrue)) ⊛ ‵ (A.own_val r
    (v ∷ []))) ⊛
    some (λ (ws : Lasts g.ended z.0.0 z.0.3). ‵ (lasts g.ended z.0.0 z.0.3 ws) ⊛ raw
    (fact 𝓤 (LoadTold text.now ws.1.0 r)))))) (id⊢ 𝓤 _) $
    await ! tt $ pick ! (λ r. split ! $ split ! $ split ! $ lft_end ! tt $ move ! (3 ∷ []) $
    pick ! (λ ws. split ! $ move ! (1 ∷ []) $ heard ! (LoadTold text.now ws.1.0 r) (λ says.
    fsplit ! $ drop ! $ fsplit ! $ fsplit ! $
    -- [the loan's last value; its borrow; nothing; α is over; the token; the result; the lender's part]
    move ! (3 ∷ 6 ∷ 0 ∷ []) $ use3 𝓛 (later (‵ (part_at R full_share ws.1.0 b o))) (ref_back 𝓛 R κ γ ws.1.0 b o) $
    await ! tt $
    -- [the guest; its borrow; nothing; the token; the result]
    move ! (4 ∷ []) $ peeks ! A (Is A) (shows 𝓛 A) r (v ∷ []) (λ is. let good = ((answer_laws.lawful 𝓛).typed r (v ∷ [])
    is).0 in
    lands_as ! refl refl good $
    returns ! (look_at ! 0 refl) $ free_all ! refl $ keep ! (0 ∷ 1 ∷ 4 ∷ []) $
    -- [the result; the guest; the token]
    move ! (1 ∷ []) $ nothing ! $ fpack ! (LoadTold text.now ws.1.0 r) (λ _. ftrue) says $ move ! (1 ∷ 0 ∷ []) $
    fjoin ! $
    fpack ! Guest (λ new. fsep (guest_at (block_ptr b o) new) (fex (LoadTold text.now new r) (λ _. ftrue))) ws.1.0 $
    suffices ! _ (ends_at 𝓛 f.ended stayed c (y (block_ptr b o)) v r (tt, (tt, (tt, tt))) (tt, (tt, (tt, tt)))) $
    nothing ! $ nothing ! $ join ! $ nothing ! $ join ! $ nothing ! $ join ! $ move ! (3 ∷ 0 ∷ 2 ∷ []) $ group ! 3 $
    done !))))))))))
