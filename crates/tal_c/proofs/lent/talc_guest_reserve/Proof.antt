-- The guest is lent for a lifetime that is made for the call, and comes back once it is ended.
use Rattle.std.proofs.Common.{ℕ, [], ◌∷◌, ◌++◌, refl, w64}
use Rattle.std.proofs.raw_atomic.Walks.{proved}
use base.Fraction.{full_share}
use base.Logic.{id⊢}
use base.Fml.{ftrue, flft, flent, fsep, fex}
use mir.Syntax.{named}
use mir.Val.{vint, vptr}
use prog.Wp.{WpFn}
use contract.Monad.{fact}
use contract.Running.{tables}
use types.Kit.{‵, raw, ◌⊛◌, some, later, prop, ◌$◌, ◌∵◌, !, qed, done, move, keep, drop, use1, use3, split, join}
use types.Kit.{fsplit, fjoin, fpack, pick, await, regoal, suffices, group}
use types.Run.{enter, of_opd, addr, stop, no_more, and_then, returns}
use types.ByLocal.{alloc_all, pass_all, free_all, look_at, get, through, sets, lands_as}
use types.SemTy.{Body}
use types.Tokens.{lft_new, lft_end}
use denote.Builtin.{u64}
use denote.Exit.{yes}
use denote.Laws.{Is, shows}
use denote.Lend.{lends_ref, ref_back}
use denote.Memory.{mem, part_at}
use denote.Plain.{uint_Makes, uint_vals, uint_Tells}
use denote.RawPtr.{Ptr, RawPtr, block_ptr, in_a_block, rawptr_vals, rawptr_Tells}
use denote.Ref.{MutRef}
use denote.Signature.{plain}
use denote.Steps.{nothing, owned, peeks, heard}
use denote.Triple.Call.{calls_at}
use denote.Triple.Clauses.{lasts, Lasts}
use denote.Triple.Entry.{on_entry}
use denote.Triple.Spec.{triple_of}
use denote.Triple.Table.{framed}
use denote.Triple.Walked.{Stays, walk_of, stay_dropped, Goes-dropped, ends_at}
use Rattle.tal_c.specs.declared.guest.Guest.{Guest}
use Rattle.tal_c.specs.contracts.guest.Guest.{the_row as R}
use Rattle.tal_c.specs.contracts.answer.Answer.{the_row as A}
use Rattle.tal_c.specs.declared.answer.Answer.{Answer}
use Rattle.tal_c.proofs.answer.Answer.TheLaws.{the_row_laws as answer_laws}
use Rattle.tal_c.specs.Guests.{GuestReserve}
use Rattle.tal_c.specs.Places.{guest_at}
use Rattle.tal_c.proofs.Loan.{lent}
use Rattle.tal_c.specs.contracts.guest.reserve_in as g
use Rattle.tal_c.proofs.guest.reserve_in.Met.{met}
use Rattle.tal_c.specs.contracts.lent.talc_guest_reserve as f
use Rattle.tal_c.proofs.lent.talc_guest_reserve.Statement.{statement}
use Rattle.tal_c.proofs.lent.talc_guest_reserve.Code as code

abbrev stayed : Stays f.ended.signature.params f.ended.kept
stayed = (stay_dropped _ yes, (stay_dropped _ yes, (stay_dropped _ yes, tt)))

pub talc_guest_reserve_spec : {M : Type 1} → statement M
talc_guest_reserve_spec 𝓤 𝓛 𝓜 𝓡 wired =
    let c = f.clauses 𝓛 𝓜.mem 𝓡.returns in let W = walk_of 𝓛 f.ended stayed c in let 𝓣 = tables 𝓤 𝓛.H 𝓜 𝓡 𝓡.env in
    proved 𝓛 f.ended stayed c 𝓜 𝓡 (
      Goes-dropped 𝓛 0 (plain (λ _. RawPtr)) yes (λ κs x w. refl),
      (
        Goes-dropped 𝓛 0 (plain (λ _. u64)) yes (λ κs x w. refl),
        (
          Goes-dropped 𝓛 0 (plain (λ _. u64)) yes (λ κs x w.
              refl),
          tt,
        ),
      ),
    )
    f.Key.name code.function (code.unfolded 𝓤 𝓛.H 𝓜 𝓡 wired)
    (λ κs. (rawptr_vals, (uint_vals w64, (uint_vals w64, tt)))) (λ κs. (
      rawptr_Tells,
      (uint_Tells w64, (uint_Tells w64, tt)),
    )) (λ κs qs bounds a old are.
    let tuples : ℕ = a.1.0 in let fields : ℕ = a.1.1.0 in let fits = are.1.0.1 in let fit = are.1.1.0.1 in
    let y : Ptr → W.Ghost = λ p. (
      (
        κs,
        qs,
        bounds,
        (p, (tuples, (fields, tt))),
        (
          rawptr_vals p,
          (vint w64 tuples ∷ [], (vint w64 fields ∷ [], tt)),
        ),
      ),
      old,
    ) in
    qed 𝓛 (raw (on_entry 𝓛 f.signature κs qs a (y a.0).0.4) ∷ ‵ (guest_at a.0 old) ∷ []) ∵ drop ! $
    in_a_block ! a.0 (λ p. guest_at p old) (id⊢ 𝓤 _) (λ b o e.
    regoal ! (λ (p : Ptr). prop (WpFn 𝓤 𝓛.H 𝓣.C 𝓣.Λ code.function (rawptr_vals p ++
    (vint w64 tuples ∷ vint w64 fields ∷ [])) (W.post (y p)))) e refl $
    -- [the guest]
    enter ! _ _ _ _ _ $ alloc_all ! (λ l. pass_all ! refl (
      (tt, tt),
      (
        (tt, record { fits = fits }),
        ((tt, record { fits = fit }), tt),
      ),
    ) $
    sets ! (of_opd ! (get ! refl)) refl (tt, tt) $
    sets ! (addr ! (through ! refl (stop !))) refl (tt, tt) $
    lft_new ! tt (λ α. let κ = α ∷ [] in move ! (1 ∷ []) $
    use1 𝓛 (later (some (λ (γ : ℕ). ‵ ((MutRef (named 0) κ R).own_val (lent b o γ old) (vptr b o ∷ [])) ⊛ ‵ (flent κ
    (Body (mem R) b o γ)))))
    (lends_ref 𝓛 R (named 0) κ old b o) $ await ! tt $ pick ! (λ γ. split ! $
    -- [the loan; the lender's part; the token of α]
    let G = triple_of 𝓛 g.signature (g.spec 𝓛 𝓜.mem 𝓡.returns) in
    let z : G.Ghost = (
      (
        (κ, tt),
        (full_share, tt),
        tt,
        (lent b o γ old, (tuples, (fields, tt))),
        (vptr b o ∷ [], (vint w64 tuples ∷ [], (vint w64 fields ∷ [], tt))),
      ),
      tt,
    ) in
    nothing ! $ owned ! u64 (Is u64) (uint_Makes 𝓛 w64) fields _ (refl, fit) $ fjoin ! $
    owned ! u64 (Is u64) (uint_Makes 𝓛 w64) tuples _ (refl, fits) $ fjoin ! $ move ! (1 ∷ 0 ∷ []) $ fjoin ! $
    nothing ! $ move ! (3 ∷ 0 ∷ []) $ join ! $ join ! $ nothing ! $ move ! (1 ∷ 0 ∷ []) $ join ! $
    use1 𝓛 (raw (G.pre z)) (id⊢ 𝓤 (G.pre z)) $
    calls_at ! (framed 𝓤 𝓛.H 𝓜 (tables 𝓤 𝓛.H 𝓜 𝓡 𝓡.env)) G (met 𝓤 𝓛 𝓜 𝓡 (code.calls-tal_c::guest::reserve_in 𝓡.env
    wired)) z
    (and_then ! (get ! refl) (and_then ! (get ! refl) (and_then ! (get ! refl) (no_more !)))) (λ v.
    use1 𝓛 (later (some (λ (r : Answer). ((‵ (flft κ full_share) ⊛ ‵ ftrue) ⊛ ‵ (A.own_val r (v ∷ []))) ⊛
    some (λ (ws : Lasts g.ended z.0.0 z.0.3). ‵ (lasts g.ended z.0.0 z.0.3 ws) ⊛ raw
    (fact 𝓤 (GuestReserve tuples fields old ws.0 r)))))) (id⊢ 𝓤 _) $
    await ! tt $ pick ! (λ r. split ! $ split ! $ split ! $ lft_end ! tt $ move ! (3 ∷ []) $
    pick ! (λ ws. split ! $ move ! (1 ∷ []) $ heard ! (GuestReserve tuples fields old ws.0 r) (λ says.
    fsplit ! $ fsplit ! $
    -- [the loan's last value; its borrow; nothing; α is over; nothing; the result; the lender's part]
    move ! (3 ∷ 6 ∷ 0 ∷ []) $ use3 𝓛 (later (‵ (part_at R full_share ws.0 b o))) (ref_back 𝓛 R κ γ ws.0 b o) $
    await ! tt $
    -- [the guest; its borrow; nothing; nothing; the result]
    move ! (4 ∷ []) $ peeks ! A (Is A) (shows 𝓛 A) r (v ∷ []) (λ is. let good = ((answer_laws.lawful 𝓛).typed r (v ∷ [])
    is).0 in
    lands_as ! refl refl good $
    returns ! (look_at ! 0 refl) $ free_all ! refl $ keep ! (0 ∷ 1 ∷ []) $
    -- [the result; the guest]
    move ! (1 ∷ []) $ nothing ! $ fpack ! (GuestReserve tuples fields old ws.0 r) (λ _. ftrue) says $
    move ! (1 ∷ 0 ∷ []) $ fjoin ! $
    fpack ! Guest (λ new. fsep (guest_at (block_ptr b o) new) (fex (GuestReserve tuples fields old new r) (λ _.
    ftrue))) ws.0 $ move ! (1 ∷ []) $
    suffices ! _ (ends_at 𝓛 f.ended stayed c (y (block_ptr b o)) v r (tt, (tt, (tt, tt))) (tt, (tt, (tt, tt)))) $
    nothing ! $ nothing ! $ join ! $ nothing ! $ join ! $ nothing ! $ join ! $ nothing ! $ group ! 3 $ done !))))))))))
