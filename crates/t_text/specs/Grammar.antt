-- The grammar of assembly texts: one family for each line, one constructor for each alternative, over whole lists of
-- tokens. Binding plays no part in it. The place of an instruction and of an end is from its word to its last token,
-- and that of the value of a data field from its first to its last token.
use Rattle.std.specs.Prelude.{◌≤◌, ℕ, ℤ, pos, suc, nat_abs, length, Bool, true, false, List, [], ◌∷◌, ◌++◌}
use Rattle.idx_core.specs.declared.span.Span.{Span}
use Rattle.idx_core.specs.declared.arith.Op.{Op}
use Rattle.idx_core.specs.declared.arith.Op.TheVariants.{Add, Sub, Mul}
use Rattle.text_core.specs.Shapes.{Grammar}
use Rattle.t_text.specs.declared.token.Kind.{Kind}
use Rattle.t_text.specs.declared.token.Kind.TheVariants as k
use Rattle.t_text.specs.declared.token.Token.{Token}
use Rattle.t_text.specs.Raw.{RawTy, RInt, RName, RCode, RSome, RTuple, RawRegs, RawReg, RawField, raw_regs, raw_fields}
use Rattle.t_text.specs.Raw.{RawBase, RReg, RNum, RLabel, RawValue, RPlain, RPack, RawInstr, RArith, RBnz, RLd}
use Rattle.t_text.specs.Raw.{RMalloc, RMov, RSt, RUnpack, RawEnd, RJmp, RHalt, RawBlock, RawDatum, RawItem, BlockItem}
use Rattle.t_text.specs.Raw.{DataItem, blocks_in, block_items, Piece, ending, up_to}

-- a token of this kind at this place
abbrev pub tok : Kind → Span → Token
tok kind span = record { kind = kind; span = span }

-- name , .. , name
pub data Names : List Token → List Span → Type 0 where
  ns_one : (n : Span) → Names (tok k.Name n ∷ []) (n ∷ [])
  ns_more : {w : List Token} {ns : List Span} (c n : Span) → Names w ns →
      Names (w ++ tok k.Comma c ∷ (tok k.Name n ∷ [])) (ns ++ n ∷ [])

-- [ names ], where names ::= nothing | name , .. , name
pub data Binds : List Token → List Span → Type 0 where
  bs_none : (o c : Span) → Binds (tok k.LeftBracket o ∷ (tok k.RightBracket c ∷ [])) []
  bs_names : {w : List Token} {ns : List Span} (o c : Span) → Names w ns →
      Binds (tok k.LeftBracket o ∷ (w ++ tok k.RightBracket c ∷ [])) ns

-- 0 | 1, by the number's value
pub data IsFlag : Kind → Bool → Type 0 where
  is_zero : IsFlag (k.Plain (pos 0)) false
  is_one : IsFlag (k.Plain (pos 1)) true
  is_minus_zero : IsFlag (k.Negative (pos 0)) false

mutual
  pub data T : List Token → Piece RawTy → Type 0 where
    -- T ::= int
    t_int : (s : Span) → T (tok k.Int s ∷ []) (ending RInt s.end)
    -- T ::= name
    t_name : (s : Span) → T (tok k.Name s ∷ []) (ending (RName s) s.end)
    -- T ::= all [ names ] File
    t_code : {u v : List Token} {ns : List Span} {file : Piece RawRegs} (a : Span) → Binds u ns → File v file →
        T (tok k.All a ∷ (u ++ v)) (ending (RCode ns file.tree) file.end)
    -- T ::= some name . T
    t_some : {w : List Token} {t : Piece RawTy} (s n d : Span) → T w t →
        T (tok k.Some s ∷ (tok k.Name n ∷ (tok k.Dot d ∷ w))) (ending (RSome n t.tree) t.end)
    -- T ::= < >
    t_unit : (o c : Span) → T (tok k.LeftAngle o ∷ (tok k.RightAngle c ∷ [])) (ending (RTuple (raw_fields [])) c.end)
    -- T ::= < F , .. , F >
    t_tuple : {w : List Token} {fs : List RawField} (o c : Span) → Fs w fs →
        T (tok k.LeftAngle o ∷ (w ++ tok k.RightAngle c ∷ [])) (ending (RTuple (raw_fields fs)) c.end)

  pub data File : List Token → Piece RawRegs → Type 0 where
    -- File ::= { }
    f_none : (o c : Span) → File (tok k.LeftBrace o ∷ (tok k.RightBrace c ∷ [])) (ending (raw_regs []) c.end)
    -- File ::= { reg : T , .. , reg : T }
    f_regs : {w : List Token} {rs : List RawReg} (o c : Span) → Rs w rs →
        File (tok k.LeftBrace o ∷ (w ++ tok k.RightBrace c ∷ [])) (ending (raw_regs rs) c.end)

  -- reg : T , .. , reg : T
  pub data Rs : List Token → List RawReg → Type 0 where
    rs_one : {w : List Token} {t : Piece RawTy} (r : ℕ) (s c : Span) → T w t →
        Rs (tok (k.Register r) s ∷ (tok k.Colon c ∷ w)) (record { reg = r; place = s; ty = t.tree } ∷ [])
    rs_more : {u v : List Token} {rs : List RawReg} {t : Piece RawTy} (c : Span) (r : ℕ) (s d : Span) → Rs u rs →
        T v t →
        Rs (u ++ tok k.Comma c ∷ (tok (k.Register r) s ∷ (tok k.Colon d ∷ v)))
        (rs ++ record { reg = r; place = s; ty = t.tree } ∷ [])

  -- F , .. , F, where F ::= T ^ 0 | T ^ 1
  pub data Fs : List Token → List RawField → Type 0 where
    fs_one : {w : List Token} {t : Piece RawTy} {n : Kind} {flag : Bool} (h s : Span) → T w t → IsFlag n flag →
        Fs (w ++ tok k.Caret h ∷ (tok n s ∷ [])) (record { ty = t.tree; flag = flag } ∷ [])
    fs_more : {u v : List Token} {fs : List RawField} {t : Piece RawTy} {n : Kind} {flag : Bool} (c h s : Span) →
        Fs u fs → T v t → IsFlag n flag →
        Fs (u ++ tok k.Comma c ∷ (v ++ tok k.Caret h ∷ (tok n s ∷ []))) (fs ++ record { ty = t.tree; flag = flag } ∷ [])

-- T , .. , T
pub data Ts : List Token → List RawTy → Type 0 where
  ts_one : {w : List Token} {t : Piece RawTy} → T w t → Ts w (t.tree ∷ [])
  ts_more : {u v : List Token} {ts : List RawTy} {t : Piece RawTy} (c : Span) → Ts u ts → T v t →
      Ts (u ++ tok k.Comma c ∷ v) (ts ++ t.tree ∷ [])

-- N ::= reg | number | label
pub data N : Token → RawBase → Type 0 where
  n_reg : (r : ℕ) (s : Span) → N (tok (k.Register r) s) (RReg r)
  n_plain : (z : ℤ) (s : Span) → N (tok (k.Plain z) s) (RNum z)
  n_negative : (z : ℤ) (s : Span) → N (tok (k.Negative z) s) (RNum z)
  n_label : (s : Span) → N (tok k.Name s) (RLabel s)

pub data V : List Token → Piece RawValue → Type 0 where
  -- V ::= N
  v_base : {b : Token} {base : RawBase} → N b base → V (b ∷ []) (ending (RPlain base []) b.span.end)
  -- V ::= N [ T , .. , T ]
  v_apply : {b : Token} {base : RawBase} {w : List Token} {ts : List RawTy} (o c : Span) → N b base → Ts w ts →
      V (b ∷ (tok k.LeftBracket o ∷ (w ++ tok k.RightBracket c ∷ []))) (ending (RPlain base ts) c.end)
  -- V ::= pack [ T , V ] as T
  v_pack : {u v w : List Token} {t s : Piece RawTy} {x : Piece RawValue} (p o m c a : Span) → T u t → V v x → T w s →
      V (tok k.Pack p ∷ (tok k.LeftBracket o ∷ (u ++ tok k.Comma m ∷ (v ++ tok k.RightBracket c ∷ (tok k.As a ∷ w)))))
      (ending (RPack t.tree x.tree s.tree) s.end)

-- add | sub | mul
pub data IsOp : Kind → Op → Type 0 where
  is_add : IsOp k.Add Add
  is_sub : IsOp k.Sub Sub
  is_mul : IsOp k.Mul Mul

pub data I : List Token → RawInstr × Span → Type 0 where
  -- I ::= add reg , reg , V | sub reg , reg , V | mul reg , reg , V
  i_arith : {n : Kind} {op : Op} {w : List Token} {v : Piece RawValue} (a b c d e : Span) (rd rs : ℕ) → IsOp n op →
      V w v →
      I (tok n a ∷ (tok (k.Register rd) b ∷ (tok k.Comma c ∷ (tok (k.Register rs) d ∷ (tok k.Comma e ∷ w)))))
      (RArith op rd rs v.tree, up_to a v.end)
  -- I ::= bnz reg , V
  i_bnz : {w : List Token} {v : Piece RawValue} (a b c : Span) (r : ℕ) → V w v →
      I (tok k.Bnz a ∷ (tok (k.Register r) b ∷ (tok k.Comma c ∷ w))) (RBnz r v.tree, up_to a v.end)
  -- I ::= ld reg , reg [ n ], where n is a plain number, so that it is its own absolute value
  i_ld : (a b c d o f e : Span) (rd rs : ℕ) (n : ℤ) →
      I (tok k.Ld a ∷ (tok (k.Register rd) b ∷
      (tok k.Comma c ∷ (tok (k.Register rs) d ∷
      (tok k.LeftBracket o ∷ (tok (k.Plain n) f ∷ (tok k.RightBracket e ∷ [])))))))
      (RLd rd rs (nat_abs n), up_to a e.end)
  -- I ::= malloc reg [ ]
  i_malloc_none : (a b o c : Span) (rd : ℕ) →
      I (tok k.Malloc a ∷ (tok (k.Register rd) b ∷ (tok k.LeftBracket o ∷ (tok k.RightBracket c ∷ []))))
      (RMalloc rd [], up_to a c.end)
  -- I ::= malloc reg [ T , .. , T ]
  i_malloc : {w : List Token} {ts : List RawTy} (a b o c : Span) (rd : ℕ) → Ts w ts →
      I (tok k.Malloc a ∷ (tok (k.Register rd) b ∷ (tok k.LeftBracket o ∷ (w ++ tok k.RightBracket c ∷ []))))
      (RMalloc rd ts, up_to a c.end)
  -- I ::= mov reg , V
  i_mov : {w : List Token} {v : Piece RawValue} (a b c : Span) (rd : ℕ) → V w v →
      I (tok k.Mov a ∷ (tok (k.Register rd) b ∷ (tok k.Comma c ∷ w))) (RMov rd v.tree, up_to a v.end)
  -- I ::= st reg [ n ] , reg
  i_st : (a b o f e c d : Span) (rd rs : ℕ) (n : ℤ) →
      I (tok k.St a ∷ (tok (k.Register rd) b ∷
      (tok k.LeftBracket o ∷
      (tok (k.Plain n) f ∷ (tok k.RightBracket e ∷ (tok k.Comma c ∷ (tok (k.Register rs) d ∷ [])))))))
      (RSt rd (nat_abs n) rs, up_to a d.end)
  -- I ::= unpack [ name , reg ] , V
  i_unpack : {w : List Token} {v : Piece RawValue} (a o n b d c e : Span) (rd : ℕ) → V w v →
      I (tok k.Unpack a ∷ (tok k.LeftBracket o ∷
      (tok k.Name n ∷ (tok k.Comma b ∷ (tok (k.Register rd) d ∷ (tok k.RightBracket c ∷ (tok k.Comma e ∷ w)))))))
      (RUnpack n rd v.tree, up_to a v.end)

-- I .. I, any number of them
pub data Is : List Token → List (RawInstr × Span) → Type 0 where
  is_none : Is [] []
  is_more : {u v : List Token} {is : List (RawInstr × Span)} {i : RawInstr × Span} → Is u is → I v i →
      Is (u ++ v) (is ++ i ∷ [])

pub data End : List Token → RawEnd × Span → Type 0 where
  -- End ::= jmp V
  e_jmp : {w : List Token} {v : Piece RawValue} (a : Span) → V w v → End (tok k.Jmp a ∷ w) (RJmp v.tree, up_to a v.end)
  -- End ::= halt [ int ]
  e_halt : (a o i c : Span) →
      End (tok k.Halt a ∷ (tok k.LeftBracket o ∷ (tok k.Int i ∷ (tok k.RightBracket c ∷ [])))) (RHalt, up_to a c.end)

-- Block ::= label : code [ names ] File . I .. I End
pub data Block : List Token → RawBlock → Type 0 where
  b_block : {u v w x : List Token} {ns : List Span} {file : Piece RawRegs} {is : List (RawInstr × Span)}
      {last : RawEnd × Span} (l c d p : Span) → Binds u ns → File v file → Is w is → End x last →
      Block (tok k.Name l ∷ (tok k.Colon c ∷ (tok k.Code d ∷ (u ++ (v ++ tok k.Dot p ∷ (w ++ x))))))
      (record { name = l; names = ns; file = file.tree; body = is; last = last })

-- Block .. Block, one or more
pub data Blocks : List Token → List RawBlock → Type 0 where
  bs_one : {w : List Token} {b : RawBlock} → Block w b → Blocks w (b ∷ [])
  bs_more : {u v : List Token} {bs : List RawBlock} {b : RawBlock} → Blocks u bs → Block v b →
      Blocks (u ++ v) (bs ++ b ∷ [])

-- Q ::= number | label
pub data Q : Token → RawBase → Type 0 where
  q_plain : (z : ℤ) (s : Span) → Q (tok (k.Plain z) s) (RNum z)
  q_negative : (z : ℤ) (s : Span) → Q (tok (k.Negative z) s) (RNum z)
  q_label : (s : Span) → Q (tok k.Name s) (RLabel s)

-- the value of a data field, with its place
pub data W : List Token → RawValue × Span → Type 0 where
  -- W ::= Q
  w_base : {b : Token} {base : RawBase} → Q b base → W (b ∷ []) (RPlain base [], b.span)
  -- W ::= Q [ T , .. , T ]
  w_apply : {b : Token} {base : RawBase} {w : List Token} {ts : List RawTy} (o c : Span) → Q b base → Ts w ts →
      W (b ∷ (tok k.LeftBracket o ∷ (w ++ tok k.RightBracket c ∷ []))) (RPlain base ts, up_to b.span c.end)
  -- W ::= pack [ T , W ] as T
  w_pack : {u v w : List Token} {t s : Piece RawTy} {x : RawValue × Span} (p o m c a : Span) → T u t → W v x → T w s →
      W (tok k.Pack p ∷ (tok k.LeftBracket o ∷ (u ++ tok k.Comma m ∷ (v ++ tok k.RightBracket c ∷ (tok k.As a ∷ w)))))
      (RPack t.tree x.0 s.tree, up_to p s.end)

-- a field with its value and the type that is written for it
abbrev pub datum : RawValue × Span → RawTy → RawDatum
datum x t = record { value = x.0; place = x.1; ty = t }

-- W : T , .. , W : T
pub data Ds : List Token → List RawDatum → Type 0 where
  ds_one : {u v : List Token} {x : RawValue × Span} {t : Piece RawTy} (c : Span) → W u x → T v t →
      Ds (u ++ tok k.Colon c ∷ v) (datum x t.tree ∷ [])
  ds_more : {u v w : List Token} {xs : List RawDatum} {x : RawValue × Span} {t : Piece RawTy} (m c : Span) →
      Ds u xs → W v x → T w t →
      Ds (u ++ tok k.Comma m ∷ (v ++ tok k.Colon c ∷ w)) (xs ++ datum x t.tree ∷ [])

-- < > | < W : T , .. , W : T >
pub data Tuple : List Token → List RawDatum → Type 0 where
  tu_none : (o c : Span) → Tuple (tok k.LeftAngle o ∷ (tok k.RightAngle c ∷ [])) []
  tu_fields : {w : List Token} {xs : List RawDatum} (o c : Span) → Ds w xs →
      Tuple (tok k.LeftAngle o ∷ (w ++ tok k.RightAngle c ∷ [])) xs

-- Item ::= Block | label : data < > | label : data < W : T , .. , W : T >
pub data Item : List Token → RawItem → Type 0 where
  it_block : {w : List Token} {b : RawBlock} → Block w b → Item w (BlockItem b)
  it_data : {w : List Token} {xs : List RawDatum} (l c d : Span) → Tuple w xs →
      Item (tok k.Name l ∷ (tok k.Colon c ∷ (tok k.Data d ∷ w))) (DataItem (record { name = l; fields = xs }))

-- Item .. Item, any number of them
pub data Items : List Token → List RawItem → Type 0 where
  its_none : Items [] []
  its_more : {u v : List Token} {xs : List RawItem} {x : RawItem} → Items u xs → Item v x →
      Items (u ++ v) (xs ++ x ∷ [])

-- a block is among the items
abbrev pub HasBlock : List RawItem → Type 0
HasBlock xs = 1 ≤ length (blocks_in xs)

-- Program ::= tal 1 Block .. Block | tal 2 Item .. Item, by the number's value; in either there is a block
pub data Program : List Token → List RawItem → Type 0 where
  p_blocks : {w : List Token} {bs : List RawBlock} (t n : Span) → Blocks w bs →
      Program (tok k.Tal t ∷ (tok (k.Plain (pos 1)) n ∷ w)) (block_items bs)
  p_items : {w : List Token} {xs : List RawItem} (t n : Span) → Items w xs → HasBlock xs →
      Program (tok k.Tal t ∷ (tok (k.Plain (pos 2)) n ∷ w)) xs

-- For each token of a form, how many constructs are open at it, where d are open around the form: a bracket `<`, `[` or
-- `{` up to and with the closing one, `some` to the end of its type.
abbrev pub open_Names : {w : List Token} {ns : List Span} → Names w ns → ℕ → List ℕ
open_Names (ns_one n) d = d ∷ []
open_Names (ns_more c n x) d = open_Names x d ++ d ∷ (d ∷ [])

abbrev pub open_Binds : {w : List Token} {ns : List Span} → Binds w ns → ℕ → List ℕ
open_Binds (bs_none o c) d = suc d ∷ (suc d ∷ [])
open_Binds (bs_names o c x) d = suc d ∷ (open_Names x (suc d) ++ suc d ∷ [])

abbrev mutual
  pub open_T : {w : List Token} {t : Piece RawTy} → T w t → ℕ → List ℕ
  open_T (t_int s) d = d ∷ []
  open_T (t_name s) d = d ∷ []
  open_T (t_code a x y) d = d ∷ (open_Binds x d ++ open_File y d)
  open_T (t_some s n e x) d = suc d ∷ (suc d ∷ (suc d ∷ open_T x (suc d)))
  open_T (t_unit o c) d = suc d ∷ (suc d ∷ [])
  open_T (t_tuple o c x) d = suc d ∷ (open_Fs x (suc d) ++ suc d ∷ [])

  pub open_File : {w : List Token} {t : Piece RawRegs} → File w t → ℕ → List ℕ
  open_File (f_none o c) d = suc d ∷ (suc d ∷ [])
  open_File (f_regs o c x) d = suc d ∷ (open_Rs x (suc d) ++ suc d ∷ [])

  pub open_Rs : {w : List Token} {rs : List RawReg} → Rs w rs → ℕ → List ℕ
  open_Rs (rs_one r s c x) d = d ∷ (d ∷ open_T x d)
  open_Rs (rs_more c r s e x y) d = open_Rs x d ++ d ∷ (d ∷ (d ∷ open_T y d))

  pub open_Fs : {w : List Token} {fs : List RawField} → Fs w fs → ℕ → List ℕ
  open_Fs (fs_one h s x f) d = open_T x d ++ d ∷ (d ∷ [])
  open_Fs (fs_more c h s x y f) d = open_Fs x d ++ d ∷ (open_T y d ++ d ∷ (d ∷ []))

abbrev pub open_Ts : {w : List Token} {ts : List RawTy} → Ts w ts → ℕ → List ℕ
open_Ts (ts_one x) d = open_T x d
open_Ts (ts_more c x y) d = open_Ts x d ++ d ∷ open_T y d

abbrev pub open_V : {w : List Token} {v : Piece RawValue} → V w v → ℕ → List ℕ
open_V (v_base n) d = d ∷ []
open_V (v_apply o c n x) d = d ∷ (suc d ∷ (open_Ts x (suc d) ++ suc d ∷ []))
open_V (v_pack p o m c a x y z) d =
    d ∷ (suc d ∷ (open_T x (suc d) ++ suc d ∷ (open_V y (suc d) ++ suc d ∷ (d ∷ open_T z d))))

abbrev pub open_I : {w : List Token} {i : RawInstr × Span} → I w i → ℕ → List ℕ
open_I (i_arith a b c e f rd rs o x) d = d ∷ (d ∷ (d ∷ (d ∷ (d ∷ open_V x d))))
open_I (i_bnz a b c r x) d = d ∷ (d ∷ (d ∷ open_V x d))
open_I (i_ld a b c e o f g rd rs n) d = d ∷ (d ∷ (d ∷ (d ∷ (suc d ∷ (suc d ∷ (suc d ∷ []))))))
open_I (i_malloc_none a b o c rd) d = d ∷ (d ∷ (suc d ∷ (suc d ∷ [])))
open_I (i_malloc a b o c rd x) d = d ∷ (d ∷ (suc d ∷ (open_Ts x (suc d) ++ suc d ∷ [])))
open_I (i_mov a b c rd x) d = d ∷ (d ∷ (d ∷ open_V x d))
open_I (i_st a b o f e c g rd rs n) d = d ∷ (d ∷ (suc d ∷ (suc d ∷ (suc d ∷ (d ∷ (d ∷ []))))))
open_I (i_unpack a o n b e c f rd x) d = d ∷ (suc d ∷ (suc d ∷ (suc d ∷ (suc d ∷ (suc d ∷ (d ∷ open_V x d))))))

abbrev pub open_Is : {w : List Token} {is : List (RawInstr × Span)} → Is w is → ℕ → List ℕ
open_Is is_none d = []
open_Is (is_more x y) d = open_Is x d ++ open_I y d

abbrev pub open_End : {w : List Token} {e : RawEnd × Span} → End w e → ℕ → List ℕ
open_End (e_jmp a x) d = d ∷ open_V x d
open_End (e_halt a o i c) d = d ∷ (suc d ∷ (suc d ∷ (suc d ∷ [])))

abbrev pub open_Block : {w : List Token} {b : RawBlock} → Block w b → ℕ → List ℕ
open_Block (b_block l c e p x y z last) d =
    d ∷ (d ∷ (d ∷ (open_Binds x d ++ (open_File y d ++ d ∷ (open_Is z d ++ open_End last d)))))

abbrev pub open_Blocks : {w : List Token} {bs : List RawBlock} → Blocks w bs → ℕ → List ℕ
open_Blocks (bs_one x) d = open_Block x d
open_Blocks (bs_more x y) d = open_Blocks x d ++ open_Block y d

abbrev pub open_W : {w : List Token} {x : RawValue × Span} → W w x → ℕ → List ℕ
open_W (w_base q) d = d ∷ []
open_W (w_apply o c q x) d = d ∷ (suc d ∷ (open_Ts x (suc d) ++ suc d ∷ []))
open_W (w_pack p o m c a x y z) d =
    d ∷ (suc d ∷ (open_T x (suc d) ++ suc d ∷ (open_W y (suc d) ++ suc d ∷ (d ∷ open_T z d))))

abbrev pub open_Ds : {w : List Token} {xs : List RawDatum} → Ds w xs → ℕ → List ℕ
open_Ds (ds_one c x y) d = open_W x d ++ d ∷ open_T y d
open_Ds (ds_more m c x y z) d = open_Ds x d ++ d ∷ (open_W y d ++ d ∷ open_T z d)

abbrev pub open_Tuple : {w : List Token} {xs : List RawDatum} → Tuple w xs → ℕ → List ℕ
open_Tuple (tu_none o c) d = suc d ∷ (suc d ∷ [])
open_Tuple (tu_fields o c x) d = suc d ∷ (open_Ds x (suc d) ++ suc d ∷ [])

abbrev pub open_Item : {w : List Token} {x : RawItem} → Item w x → ℕ → List ℕ
open_Item (it_block x) d = open_Block x d
open_Item (it_data l c e x) d = d ∷ (d ∷ (d ∷ open_Tuple x d))

abbrev pub open_Items : {w : List Token} {xs : List RawItem} → Items w xs → ℕ → List ℕ
open_Items its_none d = []
open_Items (its_more x y) d = open_Items x d ++ open_Item y d

abbrev pub open_Program : {w : List Token} {xs : List RawItem} → Program w xs → ℕ → List ℕ
open_Program (p_blocks t n x) d = d ∷ (d ∷ open_Blocks x d)
open_Program (p_items t n x h) d = d ∷ (d ∷ open_Items x d)

-- the grammar of assembly texts, with the number of constructs that are open at each token
abbrev pub assembly_grammar : Grammar
assembly_grammar = record {
  Tok = Token;
  Tree = List RawItem;
  Shape = λ w t. Program w t;
  opens = λ w t e. open_Program e 0;
}
