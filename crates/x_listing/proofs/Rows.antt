-- Worked examples: lines that `objdump -d -M intel --insn-width=10` writes, and lines of comments.
use Rattle.std.proofs.Common.{◌≡◌, ℕ, [], ◌∷◌, ◌++◌, List, refl, pos, negsuc, replicate}
use Rattle.std.specs.Prelude.{codes}
use Rattle.std.specs.Fmt.{digits}
use Rattle.x_code.specs.Bytes.{prefix, fields}
use Rattle.x_terms.specs.declared.register.Register.TheVariants.{Rax, Rcx, Rdx, Rbx, R8, R12}
use Rattle.x_terms.specs.declared.instr.Op.TheVariants.{Cmp}
use Rattle.x_terms.specs.declared.instr.Condition.TheVariants.{B}
use Rattle.x_terms.specs.declared.instr.Source.TheVariants.{Reg, Int}
use Rattle.x_terms.specs.declared.instr.Address.TheVariants.{Absolute, Based}
use Rattle.x_terms.specs.declared.instr.Instr.TheVariants.{Const, Load, Store, Lea, Arith, Jcc}
use Rattle.x_listing.specs.Lines.{Title, Word, Step, line_text}

-- spaces up to the thirtieth column of bytes
abbrev spaces : ℕ → List ℕ
spaces n = replicate n 32

row_0 : line_text (Step 0x400128 (Const Rbx 0x8000000000000000))
    ≡ codes "  400128:\t48 bb 00 00 00 00 00 00 00 80 \tmovabs rbx,0x8000000000000000\n"
unfolding digits prefix fields
row_0 = refl

row_1 : line_text (Step 0x400100 (Load Rax (Based R12 (pos 8))))
    ≡ codes "  400100:\t49 8b 84 24 08 00 00 00 " ++ (spaces 6 ++ codes "\tmov    rax,QWORD PTR [r12+0x8]\n")
unfolding digits prefix fields
row_1 = refl

row_2 : line_text (Step 0x400100 (Store (Absolute (pos 0x10000018)) Rcx))
    ≡ codes "  400100:\t48 89 0c 25 18 00 00 10 " ++ (spaces 6 ++ codes "\tmov    QWORD PTR ds:0x10000018,rcx\n")
unfolding digits prefix fields
row_2 = refl

row_3 : line_text (Step 0x400100 (Lea Rcx (Based Rax (negsuc 0))))
    ≡ codes "  400100:\t48 8d 88 ff ff ff ff " ++ (spaces 9 ++ codes "\tlea    rcx,[rax-0x1]\n")
unfolding digits prefix fields
row_3 = refl

row_4 : line_text (Step 0x400100 (Arith Cmp R8 (Int (negsuc 0))))
    ≡ codes "  400100:\t49 81 f8 ff ff ff ff " ++ (spaces 9 ++ codes "\tcmp    r8,0xffffffffffffffff\n")
unfolding digits prefix fields
row_4 = refl

row_5 : line_text (Step 0x40b8e2 (Jcc B (negsuc 255)))
    ≡ codes "  40b8e2:\t0f 82 00 ff ff ff " ++ (spaces 12 ++ codes "\tjb     0x40b7e8\n")
unfolding digits prefix fields
row_5 = refl

row_6 : line_text (Title 0x400100 (codes "start")) ≡ codes "\n0000000000400100 <start>:\n"
unfolding digits
row_6 = refl

row_7 : line_text (Word (codes "w3 = w4")) ≡ codes "  ; w3 = w4\n"
row_7 = refl
