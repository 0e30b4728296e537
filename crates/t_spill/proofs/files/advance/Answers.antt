use Rattle.std.proofs.Common.{◌≡◌, ◌≤◌, arith, ℕ, List, refl, sym, ap, ◌∙◌, subst}
use Rattle.std.proofs.lemmas.Result.{on_ok_weaker}
use Rattle.t_types.specs.Tree.{Ty}
use Rattle.t_types.specs.declared.types.TType.{TType}
use Rattle.t_types.specs.Read.{tree, file, file_tree}
use Rattle.t_types.specs.WellFormed.{max_names}
use Rattle.t_terms.specs.declared.instr.Instr.{Instr}
use Rattle.t_terms.specs.Tree.{TInstr, TProg, names_after}
use Rattle.t_terms.specs.Read.{instr}
use Rattle.t_terms.specs.ReadProgram.{program}
use Rattle.t_spill.specs.Known.{given}
use Rattle.t_spill.proofs.Knowing.{Sets, SetsUnder, moved, moved_under}
use Rattle.t_spill.proofs.files.advance.Goals as goal

-- what is given, by the slice of the registers that are read
given_of : (P : TProg) (i : TInstr) (t : Ty) (xs ys : List (ℕ × TType)) → t ≡ given P (file xs) i → xs ≡ ys →
    t ≡ given P (file ys) i
given_of P i t xs ys e same = e ∙ ap (λ (zs : List (ℕ × TType)). given P (file zs) i) same

pub returns-in-Arith : goal.returns-in-Arith
returns-in-Arith c =
    let P = program c.args.program.now in
    let e = ap instr c.in-Arith.is in
    let sets : Sets P (instr c.args.i.now) c.in-Arith.rd = subst (λ j. Sets P j c.in-Arith.rd) (sym e)
    ((λ x. refl), λ n. refl) in
    on_ok_weaker c.set.result
    (moved P c.args.known.now c.set.new.self (file_tree c.args.read.now) (instr c.args.i.now) c.in-Arith.rd
    (tree c.in_ok-t.t) sets (given_of P (instr c.args.i.now)
    (tree c.in_ok-t.t) _ _ c.in_ok-t.ensures c.deref.ensures.value))
    c.set.ensures

pub returns-in-Ld : goal.returns-in-Ld
returns-in-Ld c =
    let P = program c.args.program.now in
    let e = ap instr c.in-Ld.is in
    let sets : Sets P (instr c.args.i.now) c.in-Ld.rd = subst (λ j. Sets P j c.in-Ld.rd) (sym e)
    ((λ x. refl), λ n. refl) in
    on_ok_weaker c.set-in-Ld.result
    (moved P c.args.known.now c.set-in-Ld.new.self (file_tree c.args.read.now) (instr c.args.i.now) c.in-Ld.rd
    (tree c.in_ok-t.t) sets (given_of P (instr c.args.i.now)
    (tree c.in_ok-t.t) _ _ c.in_ok-t.ensures c.deref.ensures.value))
    c.set-in-Ld.ensures

pub returns-in-Malloc : goal.returns-in-Malloc
returns-in-Malloc c =
    let P = program c.args.program.now in
    let e = ap instr c.in-Malloc.is in
    let sets : Sets P (instr c.args.i.now) c.in-Malloc.rd = subst (λ j. Sets P j c.in-Malloc.rd) (sym e)
    ((λ x. refl), λ n. refl) in
    on_ok_weaker c.set-in-Malloc.result
    (moved P c.args.known.now c.set-in-Malloc.new.self (file_tree c.args.read.now)
    (instr c.args.i.now) c.in-Malloc.rd (tree c.in_ok-t.t) sets (given_of P (instr c.args.i.now)
    (tree c.in_ok-t.t) _ _ c.in_ok-t.ensures c.deref.ensures.value))
    c.set-in-Malloc.ensures

pub returns-in-Mov : goal.returns-in-Mov
returns-in-Mov c =
    let P = program c.args.program.now in
    let e = ap instr c.in-Mov.is in
    let sets : Sets P (instr c.args.i.now) c.in-Mov.rd = subst (λ j. Sets P j c.in-Mov.rd) (sym e)
    ((λ x. refl), λ n. refl) in
    on_ok_weaker c.set-in-Mov.result
    (moved P c.args.known.now c.set-in-Mov.new.self (file_tree c.args.read.now) (instr c.args.i.now) c.in-Mov.rd
    (tree c.in_ok-t.t) sets (given_of P (instr c.args.i.now)
    (tree c.in_ok-t.t) _ _ c.in_ok-t.ensures c.deref.ensures.value))
    c.set-in-Mov.ensures

pub returns-in-St : goal.returns-in-St
returns-in-St c =
    let P = program c.args.program.now in
    let e = ap instr c.in-St.is in
    let sets : Sets P (instr c.args.i.now) c.in-St.rd = subst (λ j. Sets P j c.in-St.rd) (sym e)
    ((λ x. refl), λ n. refl) in
    on_ok_weaker c.set-in-St.result
    (moved P c.args.known.now c.set-in-St.new.self (file_tree c.args.read.now) (instr c.args.i.now) c.in-St.rd
    (tree c.in_ok-t.t) sets (given_of P (instr c.args.i.now)
    (tree c.in_ok-t.t) _ _ c.in_ok-t.ensures c.deref.ensures.value))
    c.set-in-St.ensures

pub bind-requires : goal.bind-requires
bind-requires c =
    let room = subst (λ (j : Instr). names_after
    (instr j) c.args.known.now.names ≤ max_names) c.in-Unpack.is c.requires.room in
    omega (arith, room)

pub returns-in-Unpack : goal.returns-in-Unpack
returns-in-Unpack c =
    let P = program c.args.program.now in
    let e = ap instr c.in-Unpack.is in
    let sets : SetsUnder P (instr c.args.i.now) c.in-Unpack.rd = subst (λ j. SetsUnder P j c.in-Unpack.rd) (sym e)
    ((λ x. refl), λ n. refl) in
    on_ok_weaker c.set-in-Unpack.result
    (moved_under P c.args.known.now c.bind.new.self c.set-in-Unpack.new.self (file_tree c.args.read.now)
    (instr c.args.i.now) c.in-Unpack.rd (tree c.in_ok-t.t) sets (given_of P (instr c.args.i.now)
    (tree c.in_ok-t.t) _ _ c.in_ok-t.ensures c.deref.ensures.value) c.bind.ensures)
    c.set-in-Unpack.ensures
