-- Worked programs of the allocated calculus.
use Rattle.std.specs.Prelude.{[], ◌∷◌, true, pos}
use Rattle.idx_core.specs.declared.arith.Op.TheVariants.{Add, Sub, Mul}
use Rattle.a_terms.specs.Tree.{ATy, AInt, AVar, ATuple, ACode, AExists, NoATys, MoreATys, NoAFields, MoreAFields, Var}
use Rattle.a_terms.specs.Tree.{Num, Lab, Data, Apply, Pack, Value, Proj, Arith, Unpack, Malloc, Init, ATm, Let, Call}
use Rattle.a_terms.specs.Tree.{If0, Halt, ABlk, AProg}

-- a continuation: code that takes its surroundings and an integer, with its surroundings
abbrev pub kont : ATy
kont =
    AExists (ATuple (MoreAFields (ACode 0 (MoreATys (AVar 0) (MoreATys AInt NoATys))) true
    (MoreAFields (AVar 0) true NoAFields)))

-- what the code after a recursive call is given: the number and the continuation
abbrev pub saved : ATy
saved = ATuple (MoreAFields AInt true (MoreAFields kont true NoAFields))

-- code that takes its surroundings of this type and an integer
abbrev pub code_for : ATy → ATy
code_for t = ACode 0 (MoreATys t (MoreATys AInt NoATys))

-- fact(n, k) = if n = 0 then k(1) else fact(n - 1, ⟨L1, ⟨n, k⟩⟩)
abbrev pub fact : ABlk
fact = record {
  owes = 0;
  args = MoreATys AInt (MoreATys kont NoATys);
  body = If0 (Var 1)
      (Let (Unpack (Var 0))
      (Let (Proj 1 (Var 0)) (Let (Proj 2 (Var 1)) (Call (Var 1) NoATys (Var 0 ∷ Num (pos 1) ∷ [])))))
      (Let (Malloc (MoreATys AInt (MoreATys kont NoATys)))
      (Let (Init (Var 0) 1 (Var 2))
      (Let (Init (Var 0) 2 (Var 2))
      (Let (Malloc (MoreATys (code_for saved) (MoreATys saved NoATys)))
      (Let (Init (Var 0) 1 (Lab 1))
      (Let (Init (Var 0) 2 (Var 2))
      (Let (Value (Pack saved (Var 0) kont))
      (Let (Arith Sub (Var 8) (Num (pos 1)))
      (Call (Lab 0) NoATys (Var 0 ∷ Var 1 ∷ []))))))))));
}

-- L1(⟨n, k⟩, r) = k(n * r)
abbrev pub times : ABlk
times = record {
  owes = 0;
  args = MoreATys saved (MoreATys AInt NoATys);
  body =
      Let (Proj 1 (Var 1))
      (Let (Proj 2 (Var 2))
      (Let (Arith Mul (Var 1) (Var 2))
      (Let (Unpack (Var 1))
      (Let (Proj 1 (Var 0)) (Let (Proj 2 (Var 1)) (Call (Var 1) NoATys (Var 0 ∷ Var 3 ∷ [])))))));
}

-- the end: halts with its argument
abbrev pub ends : ABlk
ends = record { owes = 0; args = MoreATys (ATuple NoAFields) (MoreATys AInt NoATys); body = Halt (Var 0) }

-- the closure of the end, which takes nothing of its surroundings, is data
abbrev pub factorial : AProg
factorial = record {
  blocks = fact ∷ times ∷ ends ∷ [];
  tuples =
      [] ∷ (record { value = Lab 2; kind = code_for (ATuple NoAFields) }
      ∷ record { value = Data 0; kind = ATuple NoAFields } ∷ []) ∷ [];
}

-- the factorial of five
abbrev pub of_five : ATm
of_five = Call (Lab 0) NoATys (Num (pos 5) ∷ Pack (ATuple NoAFields) (Data 1) kont ∷ [])

-- polymorphic code that calls itself: down(n, x) = if n = 0 then 7 else down[a](n - 1, x), with an `if0` under a type
-- variable
abbrev pub down : ABlk
down = record {
  owes = 1;
  args = MoreATys AInt (MoreATys (AVar 0) NoATys);
  body =
      If0 (Var 1) (Halt (Num (pos 7)))
      (Let (Arith Sub (Var 1) (Num (pos 1))) (Call (Lab 0) (MoreATys (AVar 0) NoATys) (Var 0 ∷ Var 1 ∷ [])));
}

-- a tuple of one integer
abbrev pub cell : ATy
cell = ATuple (MoreAFields AInt true NoAFields)

-- a program of that block alone
abbrev pub downs_alone : AProg
downs_alone = record { blocks = down ∷ []; tuples = [] }

-- down[cell](3, <3>), the tuple unpacked on the way
abbrev pub counting : ATm
counting =
    Let (Malloc (MoreATys AInt NoATys))
    (Let (Init (Var 0) 1 (Num (pos 3)))
    (Let (Proj 1 (Var 0))
    (Let (Unpack (Pack AInt (Var 0) (AExists (AVar 0))))
    (Call (Apply (Lab 0) (MoreATys cell NoATys)) NoATys (Var 1 ∷ Var 2 ∷ [])))))

-- the identity by a polymorphic function, in allocated form: id[int](8) + 1, where id is made by a function that gives
-- itself an argument
abbrev pub example : AProg
example = record {
  blocks = record {
    owes = 1;
    args = (MoreATys (ATuple NoAFields)
        (MoreATys (AExists
        (ATuple (MoreAFields
        (ACode 0 (MoreATys (AVar 0)
        (MoreATys (AExists
        (ATuple (MoreAFields
        (ACode 0 (MoreATys (AVar 0)
        (MoreATys (AVar 2)
        (MoreATys (AExists
        (ATuple (MoreAFields (ACode 0 (MoreATys (AVar 0) (MoreATys (AVar 3) NoATys)))
        true (MoreAFields (AVar 0) true NoAFields)))) NoATys)))) true
        (MoreAFields (AVar 0) true NoAFields)))) NoATys))) true
        (MoreAFields (AVar 0) true NoAFields)))) NoATys));
    body =
        (Let (Malloc
        (MoreATys (ACode 0
        (MoreATys (ATuple NoAFields)
        (MoreATys (AVar 0)
        (MoreATys (AExists
        (ATuple (MoreAFields (ACode 0 (MoreATys (AVar 0) (MoreATys (AVar 1) NoATys))) true
        (MoreAFields (AVar 0) true NoAFields)))) NoATys)))) (MoreATys (ATuple NoAFields) NoATys)))
        (Let (Init (Var 0) 1 (Apply (Lab 1) (MoreATys (AVar 0) NoATys)))
        (Let (Init (Var 0) 2 (Data 0))
        (Let
        (Value (Pack (ATuple NoAFields) (Var 0)
        (AExists (ATuple
        (MoreAFields
        (ACode 0 (MoreATys (AVar 0)
        (MoreATys (AVar 1)
        (MoreATys (AExists
        (ATuple (MoreAFields (ACode 0 (MoreATys (AVar 0) (MoreATys (AVar 2) NoATys))) true
        (MoreAFields (AVar 0) true NoAFields)))) NoATys)))) true
        (MoreAFields (AVar 0) true NoAFields))))))
        (Let (Unpack (Var 4))
        (Let (Proj 1 (Var 0)) (Let (Proj 2 (Var 1)) (Call (Var 1) NoATys ((Var 0) ∷ (Var 3) ∷ [])))))))));
  }
      ∷ record {
        owes = 1;
        args = (MoreATys (ATuple NoAFields)
            (MoreATys (AVar 0)
            (MoreATys (AExists
            (ATuple (MoreAFields (ACode 0 (MoreATys (AVar 0) (MoreATys (AVar 1) NoATys))) true
            (MoreAFields (AVar 0) true NoAFields)))) NoATys)));
        body = (Let (Malloc (MoreATys (AVar 0) NoATys))
            (Let (Init (Var 0) 1 (Var 2))
            (Let (Malloc
            (MoreATys (ACode 0
            (MoreATys (ATuple (MoreAFields (AVar 0) true NoAFields))
            (MoreATys AInt
            (MoreATys (AExists
            (ATuple (MoreAFields (ACode 0 (MoreATys (AVar 0) (MoreATys (AVar 1) NoATys))) true
            (MoreAFields (AVar 0) true NoAFields)))) NoATys))))
            (MoreATys (ATuple (MoreAFields (AVar 0) true NoAFields)) NoATys)))
            (Let (Init (Var 0) 1 (Apply (Lab 2) (MoreATys (AVar 0) NoATys)))
            (Let (Init (Var 0) 2 (Var 2))
            (Let (Value (Pack (ATuple (MoreAFields (AVar 0) true NoAFields)) (Var 0)
            (AExists (ATuple
            (MoreAFields
            (ACode 0 (MoreATys (AVar 0)
            (MoreATys AInt
            (MoreATys (AExists
            (ATuple (MoreAFields (ACode 0 (MoreATys (AVar 0) (MoreATys (AVar 2) NoATys)))
            true (MoreAFields (AVar 0) true NoAFields)))) NoATys)))) true
            (MoreAFields (AVar 0) true NoAFields))))))
            (Let (Unpack (Var 0))
            (Let (Proj 1 (Var 0))
            (Let (Proj 2 (Var 1)) (Call (Var 1) NoATys ((Var 0) ∷ (Num (pos 0)) ∷ (Var 9) ∷ [])))))))))));
      }
      ∷ record {
        owes = 1;
        args = (MoreATys (ATuple (MoreAFields (AVar 0) true NoAFields))
            (MoreATys AInt
            (MoreATys (AExists
            (ATuple (MoreAFields (ACode 0 (MoreATys (AVar 0) (MoreATys (AVar 1) NoATys))) true
            (MoreAFields (AVar 0) true NoAFields)))) NoATys)));
        body = (Let (Proj 1 (Var 2))
            (Let (Unpack (Var 1))
            (Let (Proj 1 (Var 0)) (Let (Proj 2 (Var 1)) (Call (Var 1) NoATys ((Var 0) ∷ (Var 3) ∷ []))))));
      }
      ∷ record {
        owes = 0;
        args = (MoreATys (ATuple NoAFields)
            (MoreATys (AExists
            (ATuple (MoreAFields
            (ACode 0 (MoreATys (AVar 0)
            (MoreATys AInt
            (MoreATys (AExists
            (ATuple (MoreAFields (ACode 0 (MoreATys (AVar 0) (MoreATys AInt NoATys))) true
            (MoreAFields (AVar 0) true NoAFields)))) NoATys)))) true
            (MoreAFields (AVar 0) true NoAFields)))) NoATys));
        body = (Let (Unpack (Var 0))
            (Let (Proj 1 (Var 0))
            (Let (Proj 2 (Var 1))
            (Call (Var 1) NoATys
            ((Var 0) ∷ (Num (pos 8))
            ∷ (Pack (ATuple NoAFields) (Data 2)
            (AExists (ATuple
            (MoreAFields (ACode 0 (MoreATys (AVar 0) (MoreATys AInt NoATys))) true
            (MoreAFields (AVar 0) true NoAFields))))) ∷ [])))));
      }
      ∷ record {
        owes = 0;
        args = (MoreATys (ATuple NoAFields) (MoreATys AInt NoATys));
        body = (Let (Arith Add (Var 0) (Num (pos 1))) (Halt (Var 0)));
      } ∷ [];
  tuples = ([]) ∷ ([])
      ∷ (record { value = (Lab 4); kind = (ACode 0 (MoreATys (ATuple NoAFields) (MoreATys AInt NoATys))) }
      ∷ record { value = (Data 1); kind = (ATuple NoAFields) } ∷ []) ∷ ([])
      ∷ (record {
        value = (Lab 0);
        kind = (ACode 1
            (MoreATys (ATuple NoAFields)
            (MoreATys (AExists
            (ATuple (MoreAFields
            (ACode 0 (MoreATys (AVar 0)
            (MoreATys (AExists
            (ATuple (MoreAFields
            (ACode 0 (MoreATys (AVar 0)
            (MoreATys (AVar 2)
            (MoreATys (AExists
            (ATuple (MoreAFields (ACode 0 (MoreATys (AVar 0) (MoreATys (AVar 3) NoATys)))
            true (MoreAFields (AVar 0) true NoAFields)))) NoATys)))) true
            (MoreAFields (AVar 0) true NoAFields)))) NoATys))) true
            (MoreAFields (AVar 0) true NoAFields)))) NoATys)));
      }
      ∷ record { value = (Data 3); kind = (ATuple NoAFields) } ∷ []) ∷ ([])
      ∷ (record {
        value = (Lab 3);
        kind = (ACode 0
            (MoreATys (ATuple NoAFields)
            (MoreATys (AExists
            (ATuple (MoreAFields
            (ACode 0 (MoreATys (AVar 0)
            (MoreATys AInt
            (MoreATys (AExists
            (ATuple (MoreAFields (ACode 0 (MoreATys (AVar 0) (MoreATys AInt NoATys))) true
            (MoreAFields (AVar 0) true NoAFields)))) NoATys)))) true
            (MoreAFields (AVar 0) true NoAFields)))) NoATys)));
      }
      ∷ record { value = (Data 5); kind = (ATuple NoAFields) } ∷ []) ∷ [];
}

abbrev pub of_eight : ATm
of_eight = (Let
    (Value (Pack (ATuple NoAFields) (Data 4)
    (AExists (ATuple
    (MoreAFields
    (ACode 1 (MoreATys (AVar 1)
    (MoreATys (AExists
    (ATuple (MoreAFields
    (ACode 0 (MoreATys (AVar 0)
    (MoreATys (AExists
    (ATuple (MoreAFields
    (ACode 0 (MoreATys (AVar 0)
    (MoreATys (AVar 2)
    (MoreATys (AExists
    (ATuple (MoreAFields
    (ACode 0 (MoreATys (AVar 0) (MoreATys (AVar 3) NoATys))) true
    (MoreAFields (AVar 0) true NoAFields)))) NoATys)))) true
    (MoreAFields (AVar 0) true NoAFields)))) NoATys))) true
    (MoreAFields (AVar 0) true NoAFields)))) NoATys))) true
    (MoreAFields (AVar 0) true NoAFields))))))
    (Let (Unpack (Var 0))
    (Let (Proj 1 (Var 0))
    (Let (Proj 2 (Var 1))
    (Call (Var 1) (MoreATys AInt NoATys)
    ((Var 0) ∷ (Pack (ATuple NoAFields) (Data 6)
    (AExists (ATuple
    (MoreAFields
    (ACode 0 (MoreATys (AVar 0)
    (MoreATys (AExists
    (ATuple (MoreAFields
    (ACode 0 (MoreATys (AVar 0)
    (MoreATys AInt
    (MoreATys (AExists
    (ATuple (MoreAFields (ACode 0 (MoreATys (AVar 0) (MoreATys AInt NoATys)))
    true (MoreAFields (AVar 0) true NoAFields)))) NoATys)))) true
    (MoreAFields (AVar 0) true NoAFields)))) NoATys))) true
    (MoreAFields (AVar 0) true NoAFields))))) ∷ []))))))

-- two arguments that change places: L0(x, y) = if x = 0 then y else L0(y, x)
abbrev pub exchange : AProg
exchange = record {
  blocks = record {
    owes = 0;
    args = (MoreATys AInt (MoreATys AInt NoATys));
    body = (If0 (Var 1) (Halt (Var 0)) (Call (Lab 0) NoATys ((Var 0) ∷ (Var 1) ∷ [])));
  } ∷ [];
  tuples = [];
}

abbrev pub exchanging : ATm
exchanging = (Call (Lab 0) NoATys ((Num (pos 3)) ∷ (Num (pos 0)) ∷ []))

-- no blocks
abbrev pub alone : AProg
alone = record { blocks = []; tuples = [] }

-- a package in a package
abbrev pub nested : ATm
nested = (Let (Value (Pack (AExists (AVar 0)) (Pack AInt (Num (pos 7)) (AExists (AVar 0))) (AExists (AVar 0))))
    (Let (Unpack (Var 0)) (Halt (Num (pos 1)))))

-- a cell that is assigned to, under a name that nothing uses
abbrev pub assigned : ATm
assigned = (Let (Malloc (MoreATys AInt NoATys))
    (Let (Init (Var 0) 1 (Num (pos 3)))
    (Let (Init (Var 0) 1 (Num (pos 4)))
    (Let (Arith Add (Num (pos 20)) (Num (pos 1)))
    (Let (Proj 1 (Var 2)) (If0 (Var 0) (Halt (Num (pos 0))) (Halt (Var 0))))))))

-- L0(x, y) = L1(x - y, x), where the code of the call has a name, and L1(x, y) = x + y
abbrev pub placing : AProg
placing = record {
  blocks =
      record {
        owes = 0;
        args = MoreATys AInt (MoreATys AInt NoATys);
        body =
            Let (Value (Lab 1)) (Let (Arith Sub (Var 2) (Var 1)) (Call (Var 1) NoATys (Var 0 ∷ Var 3 ∷ [])));
      }
      ∷ record {
        owes = 0;
        args = MoreATys AInt (MoreATys AInt NoATys);
        body = Let (Arith Add (Var 1) (Var 0)) (Halt (Var 0));
      }
      ∷ [];
  tuples = [];
}

-- L0(2 * 3 + 1, 2 * 3)
abbrev pub placed : ATm
placed =
    Let (Arith Mul (Num (pos 2)) (Num (pos 3)))
    (Let (Arith Add (Var 0) (Num (pos 1))) (Call (Lab 0) NoATys (Var 0 ∷ Var 1 ∷ [])))
