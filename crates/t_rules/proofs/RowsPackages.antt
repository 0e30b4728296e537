-- Worked programs with packages that are accepted, their runs and answers. The comment above each is its text, with a
-- bar for a line end; its places are those of the bytes of that text.
use Rattle.std.proofs.Common.{true, [], ◌∷◌, refl, arith}
use Rattle.std.specs.Prelude.{pos}
use Rattle.t_types.specs.Tree.{IntTy, VarTy, CodeTy, ExistsTy, TupleTy, NoRegs, MoreRegs, NoFields, MoreFields}
use Rattle.t_terms.specs.Tree.{Reg, Int, Label, Plain, Pack, Ld, Malloc, Mov, St, Unpack, Jmp, Halt}
use Rattle.t_terms.specs.Spanned.{SProg, plain_program}
use Rattle.t_terms.specs.Whole.{WellFormedProgram}
use Rattle.t_rules.specs.Rules.{Accepted}
use Rattle.t_rules.specs.Machine.{Next, Into, HaltsWithin}
use Rattle.t_rules.proofs.Rows.{span, block, only, start, step}

-- A package of a number and of code that takes it: who unpacks it can only call the code.
-- tal 1 | L0: code[]{}. malloc r1[int, all[]{r1:int}] mov r2, 5 st r1[0], r2 mov r2, L1 st r1[1], r2 mov r3,
-- pack[int,r1] as some a. <a^1, all[]{r1:a}^1> unpack[b,r3], r3 ld r2, r3[1] ld r1, r3[0] jmp r2 | L1: code[]{r1:int}.
-- halt[int]
abbrev pub object : SProg
object = only (
    block (span 6 8) 0 NoRegs
    ((Malloc 1 (IntTy ∷ (CodeTy 0 (MoreRegs 1 IntTy NoRegs)) ∷ []), span 20 49)
    ∷ (Mov 2 (Plain (Int (pos 5)) []), span 50 59) ∷ (St 1 0 2, span 60 72)
    ∷ (Mov 2 (Plain (Label 1) []), span 73 83) ∷ (St 1 1 2, span 84 96)
    ∷ (
      Mov 3 (Pack IntTy (Plain (Reg 1) [])
          (ExistsTy (TupleTy
          (MoreFields (VarTy 0) true (MoreFields (CodeTy 0 (MoreRegs 1 (VarTy 0) NoRegs)) true NoFields))))),
      span 97 149,
    ) ∷ (Unpack 3 (Plain (Reg 3) []), span 150 166) ∷ (Ld 2 3 1, span 167 179)
    ∷ (Ld 1 3 0, span 180 192) ∷ []) (Jmp (Plain (Reg 2) [])) (span 193 199)
    ∷ block (span 200 202) 0 (MoreRegs 1 IntTy NoRegs) [] Halt (span 220 229) ∷ [])

object_whole : WellFormedProgram (plain_program object)
object_whole = search arith

object_accepted : Accepted (plain_program object)
object_accepted = (
  (refl, refl),
  tt,
  (
    (
      search arith,
      (
        _,
        (refl, search arith),
        (
          _,
          (IntTy, refl, refl),
          (
            _,
            (_, _, _, _, refl, refl, refl, refl, refl),
            (
              _,
              (CodeTy 0 (MoreRegs 1 IntTy NoRegs), (_, refl, refl), refl),
              (
                _,
                (_, _, _, _, refl, refl, refl, refl, refl),
                (
                  _,
                  (
                    ExistsTy
                        (TupleTy (MoreFields (VarTy 0) true
                        (MoreFields (CodeTy 0 (MoreRegs 1 (VarTy 0) NoRegs)) true NoFields))),
                    (_, _, refl, refl, (refl, (λ e. e), (refl, (λ e. e), tt)), refl, search arith, search arith),
                    refl,
                  ),
                  (
                    _,
                    (_, refl, refl),
                    (
                      _,
                      (_, _, refl, refl, refl),
                      (_, (_, _, refl, refl, refl), (_, refl, ((VarTy 0, refl, refl), tt))),
                    ),
                  ),
                ),
              ),
            ),
          ),
        ),
      ),
    ),
    ((search arith, refl), tt),
  ),
)

object_halts : HaltsWithin (plain_program object) 10 (pos 5)
object_halts =
    let s0 = start (plain_program object) _ refl in
    let s1 = step s0 Next _ (refl, refl) in
    let s2 = step s1 Next _ (_, refl, refl, refl) in
    let s3 = step s2 Next _ (_, _, _, refl, refl, omega arith, refl, refl, refl) in
    let s4 = step s3 Next _ (_, refl, refl, refl) in
    let s5 = step s4 Next _ (_, _, _, refl, refl, omega arith, refl, refl, refl) in
    let s6 = step s5 Next _ (_, (_, (_, refl, refl), refl), refl, refl) in
    let s7 = step s6 Next _ (_, _, _, (_, refl, refl), refl, refl) in
    let s8 = step s7 Next _ (_, _, _, refl, refl, refl, (λ t e. cc), refl, refl) in
    let s9 = step s8 Next _ (_, _, _, refl, refl, refl, (λ t e. cc), refl, refl) in
    let s10 = step s9 (Into 1) _ (_, 1, _, (_, refl, refl), (_, _, refl, refl, refl, refl), refl, refl) in
    (10, omega arith, (_, _, s10.after, refl))

-- A package in a package, as a value.
-- tal 1 | L0: code[]{}. unpack[b,r2], pack[int,pack[int,3] as some a. a] as some a. some b. b unpack[c,r3], r2 mov r1,
-- 4 halt[int]
abbrev pub package_unpacked : SProg
package_unpacked = only (
    block (span 6 8) 0 NoRegs
    ((
      Unpack 2 (Pack IntTy (Pack IntTy (Plain (Int (pos 3)) []) (ExistsTy (VarTy 0)))
          (ExistsTy (ExistsTy (VarTy 0)))),
      span 20 89,
    ) ∷ (Unpack 3 (Plain (Reg 2) []), span 90 106)
    ∷ (Mov 1 (Plain (Int (pos 4)) []), span 107 116) ∷ []) Halt (span 117 126) ∷ [])

package_unpacked_whole : WellFormedProgram (plain_program package_unpacked)
package_unpacked_whole = search arith

package_unpacked_accepted : Accepted (plain_program package_unpacked)
package_unpacked_accepted = (
  (refl, refl),
  tt,
  (
    (
      search arith,
      (
        _,
        (
          _,
          (
            _,
            _,
            (_, _, refl, refl, refl, refl, search arith, search arith),
            refl,
            refl,
            refl,
            search arith,
            search arith,
          ),
          refl,
        ),
        (_, (_, refl, refl), (_, (IntTy, refl, refl), refl)),
      ),
    ),
    tt,
  ),
)

package_unpacked_halts : HaltsWithin (plain_program package_unpacked) 3 (pos 4)
package_unpacked_halts =
    let s0 = start (plain_program package_unpacked) _ refl in
    let s1 = step s0 Next _ (_, _, _, (_, (_, refl, refl), refl), refl, refl) in
    let s2 = step s1 Next _ (_, _, _, (_, refl, refl), refl, refl) in
    let s3 = step s2 Next _ (_, refl, refl, refl) in
    (3, omega arith, (_, _, s3.after, refl))

-- An unpack in polymorphic code: the other registers keep their types, under one type variable more.
-- tal 1 | L0: code[]{}. mov r2, 5 mov r1, pack[int,3] as some b. b mov r3, L2 jmp L1[int] | L1: code[a]{r1:some b. b,
-- r2:a, r3:all[]{r2:a}}. unpack[b,r1], r1 jmp r3 | L2: code[]{r2:int}. mov r1, r2 halt[int]
abbrev pub unpack_in_code : SProg
unpack_in_code = only (
    block (span 6 8) 0 NoRegs
    ((Mov 2 (Plain (Int (pos 5)) []), span 20 29)
    ∷ (Mov 1 (Pack IntTy (Plain (Int (pos 3)) []) (ExistsTy (VarTy 0))), span 30 62)
    ∷ (Mov 3 (Plain (Label 2) []), span 63 73) ∷ []) (Jmp (Plain (Label 1) (IntTy ∷ []))) (span 74 85)
    ∷ block (span 86 88) 1
    (MoreRegs 1 (ExistsTy (VarTy 0))
    (MoreRegs 2 (VarTy 0) (MoreRegs 3 (CodeTy 0 (MoreRegs 2 (VarTy 0) NoRegs)) NoRegs)))
    ((Unpack 1 (Plain (Reg 1) []), span 135 151) ∷ []) (Jmp (Plain (Reg 3) [])) (span 152 158)
    ∷ block (span 159 161) 0 (MoreRegs 2 IntTy NoRegs) ((Mov 1 (Plain (Reg 2) []), span 179 189) ∷ []) Halt
    (span 190 199) ∷ [])

unpack_in_code_whole : WellFormedProgram (plain_program unpack_in_code)
unpack_in_code_whole = search arith

unpack_in_code_accepted : Accepted (plain_program unpack_in_code)
unpack_in_code_accepted = (
  (refl, refl),
  tt,
  (
    (
      search arith,
      (
        _,
        (IntTy, refl, refl),
        (
          _,
          (ExistsTy (VarTy 0), (_, _, refl, refl, refl, refl, search arith, search arith), refl),
          (
            _,
            (CodeTy 0 (MoreRegs 2 IntTy NoRegs), (_, refl, refl), refl),
            (
              _,
              (1, _, (_, refl, refl), omega arith, refl, search arith),
              (
                (ExistsTy (VarTy 0), refl, refl),
                ((IntTy, refl, refl), ((CodeTy 0 (MoreRegs 2 IntTy NoRegs), refl, refl), tt)),
              ),
            ),
          ),
        ),
      ),
    ),
    (
      (search arith, (_, (_, refl, refl), (_, refl, ((VarTy 1, refl, refl), tt)))),
      ((search arith, (_, (IntTy, refl, refl), refl)), tt),
    ),
  ),
)

unpack_in_code_halts : HaltsWithin (plain_program unpack_in_code) 7 (pos 5)
unpack_in_code_halts =
    let s0 = start (plain_program unpack_in_code) _ refl in
    let s1 = step s0 Next _ (_, refl, refl, refl) in
    let s2 = step s1 Next _ (_, (_, refl, refl), refl, refl) in
    let s3 = step s2 Next _ (_, refl, refl, refl) in
    let s4 = step s3 (Into 1) _ (_, 1, _, refl, (_, _, refl, refl, refl, refl), refl, refl) in
    let s5 = step s4 Next _ (_, _, _, (_, refl, refl), refl, refl) in
    let s6 = step s5 (Into 2) _ (_, 2, _, (_, refl, refl), (_, _, refl, refl, refl, refl), refl, refl) in
    let s7 = step s6 Next _ (_, (_, refl, refl), refl, refl) in
    (7, omega arith, (_, _, s7.after, refl))
