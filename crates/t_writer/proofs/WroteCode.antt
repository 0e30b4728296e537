-- A value, an instruction and an end that are written stand for themselves, where the names around them are those of
-- their depth and the labels those of the blocks in turn.
use Rattle.std.proofs.Common.{◌≡◌, ◌≤◌, ◌^◌, pos, negsuc, ℕ, ◌+◌, List, [], ◌∷◌, ◌++◌, length, codes, true, refl, sym}
use Rattle.std.proofs.Common.{ap, ap₂, ◌∙◌, arith, Some}
use Rattle.idx_core.specs.declared.span.Span.{Span}
use Rattle.idx_core.specs.declared.arith.Op.{Op}
use Rattle.idx_core.specs.declared.arith.Op.TheVariants.{Add, Sub, Mul}
use Rattle.idx_core.specs.Names.{Name}
use Rattle.t_types.specs.Tree.{Ty}
use Rattle.t_types.specs.WellFormed.{max_names}
use Rattle.t_text.specs.declared.token.Kind.{Kind}
use Rattle.t_text.specs.declared.token.Kind.TheVariants as k
use Rattle.t_text.specs.declared.token.Token.{Token}
use Rattle.t_terms.specs.Tree.{TBase, Reg, Int, Label, Data, TValue, Plain, Pack, TInstr, Arith, Bnz, Ld, Malloc, Mov}
use Rattle.t_terms.specs.Tree.{St, Unpack, TEnd, Jmp, Halt}
use Rattle.t_terms.specs.Tree as tree_of
use Rattle.t_text.specs.Raw.{RawBase, RReg, RNum, RLabel, RawValue, RPlain, RPack, RawInstr, RArith, RBnz, RLd, RMalloc}
use Rattle.t_text.specs.Raw.{RMov, RSt, RUnpack, RawEnd, RJmp, RHalt, Piece, ending, up_to}
use Rattle.t_text.specs.Grammar.{tok, N, n_reg, n_plain, n_negative, n_label, V, v_base, v_apply, v_pack, IsOp, is_add}
use Rattle.t_text.specs.Grammar.{is_sub, is_mul, I, i_arith, i_bnz, i_ld, i_malloc_none, i_malloc, i_mov, i_st}
use Rattle.t_text.specs.Grammar.{i_unpack, End, e_jmp, e_halt}
use Rattle.t_text.specs.Names.{Labels, spelled, named_by, base_of, value_of, instr_of, scope_after, end_of}
use Rattle.t_text.specs.NameFaults.{base_faults, value_faults, instr_faults, end_faults}
use Rattle.t_terms.specs.Whole.{WellFormedBase, WellFormedValue, WellFormedInstr, WellFormedEnd}
use Rattle.t_terms.specs.Values.{InstrValues, EndValues}
use Rattle.t_terms.specs.Whole.{BaseFits, ValueFits}
use Rattle.t_writer.specs.Lexeme.{Lexeme, Reserved, TypeName, LabelName, DataName, Register, Number, bytes}
use Rattle.t_writer.specs.Lexeme.{comma, left_bracket, right_bracket}
use Rattle.t_writer.specs.Written.{space, type_written, types_written, list_written, base_written}
use Rattle.t_writer.specs.Written.{value_written, op_written, instr_written, end_written}
use Rattle.t_writer.proofs.Items.{Valid}
use Rattle.t_writer.proofs.Placed as placing
use Rattle.t_writer.proofs.Placed.{size, placed, token_of, placed_append, stops, Follows, Fine, fine_append, Written}
use Rattle.t_writer.proofs.Placed.{written_append}
use Rattle.t_writer.proofs.Scopes.{data_from, labels_from, scope, scope_next, past_data, in_data, in_labels}
use Rattle.t_writer.proofs.WroteTypes.{wrote_type, wrote_types}

-- where a register ends that stands at a place
abbrev after_reg : ℕ → ℕ → ℕ
after_reg i r = i + length (bytes (Register r))

-- the word of an operation
record WroteOp (i : ℕ) (op : Op) : Type 0 where
  kind : Kind
  at : token_of i (op_written op) ≡ tok kind (placing.place_of i (op_written op)) ∷ []
  is : IsOp kind op
  valid : Valid (op_written op)
  follows : (ls : List Lexeme) → Follows (op_written op) (space ∷ ls) true

wrote_op : (i : ℕ) (op : Op) → WroteOp i op
wrote_op i Add = record { kind = k.Add; at = refl; is = is_add; valid = (refl, tt); follows = λ ls. refl }
wrote_op i Sub = record { kind = k.Sub; at = refl; is = is_sub; valid = (refl, tt); follows = λ ls. refl }
wrote_op i Mul = record { kind = k.Mul; at = refl; is = is_mul; valid = (refl, tt); follows = λ ls. refl }

-- in a program of p blocks and q data tuples
module _ (text : List ℕ) (p q : ℕ) (few : p ≤ 2 ^ 64) (small : q ≤ 2 ^ 64) where
  abbrev pub labels : Labels
  labels = data_from 0 q ++ labels_from 0 p

  pub record WroteBase (i : ℕ) (b : TBase) : Type 0 where
    pub token : Token
    pub raw : RawBase
    pub at : token_of i (base_written b) ≡ token ∷ []
    pub whole : N token raw
    pub valid : Valid (base_written b)
    pub follows : (ls : List Lexeme) → stops ls true ≡ true → Follows (base_written b) ls true
    pub means : base_of text labels raw ≡ b
    pub none : base_faults text labels raw ≡ []

  pub wrote_base : (i : ℕ) (b : TBase) → WellFormedBase p q b → BaseFits b → Written text i (base_written b ∷ []) →
      WroteBase i b
  wrote_base i (Reg r) h f w = record {
    token = tok (k.Register r) (placing.place_of i (Register r));
    raw = RReg r;
    at = refl;
    whole = n_reg r (placing.place_of i (Register r));
    valid = h;
    follows = λ ls e. e;
    means = refl;
    none = refl;
  }
  wrote_base i (Int (pos n)) h f w = record {
    token = tok (k.Plain (pos n)) (placing.place_of i (Number (pos n)));
    raw = RNum (pos n);
    at = refl;
    whole = n_plain (pos n) (placing.place_of i (Number (pos n)));
    valid = f;
    follows = λ ls e. e;
    means = refl;
    none = refl;
  }
  wrote_base i (Int (negsuc n)) h f w = record {
    token = tok (k.Negative (negsuc n)) (placing.place_of i (Number (negsuc n)));
    raw = RNum (negsuc n);
    at = refl;
    whole = n_negative (negsuc n) (placing.place_of i (Number (negsuc n)));
    valid = f;
    follows = λ ls e. e;
    means = refl;
    none = refl;
  }
  wrote_base i (Label l) h f w =
      let s = placing.place_of i (LabelName l) in
      let g : named_by (spelled text s) labels ≡ Some (Label l) =
      rw w.0 (past_data 0 q l (labels_from 0 p) ∙ in_labels 0 p l (omega arith) (omega arith) (omega arith)) in
      record {
        token = tok k.Name s;
        raw = RLabel s;
        at = refl;
        whole = n_label s;
        valid = omega arith;
        follows = λ ls e. e;
        means = rw g refl;
        none = rw g refl;
      }
  wrote_base i (Data d) h f w =
      let s = placing.place_of i (DataName d) in
      let g : named_by (spelled text s) labels ≡ Some (Data d) =
      rw w.0 (in_data 0 q d (labels_from 0 p) (omega arith) (omega arith) (omega arith)) in
      record {
        token = tok k.Name s;
        raw = RLabel s;
        at = refl;
        whole = n_label s;
        valid = omega arith;
        follows = λ ls e. e;
        means = rw g refl;
        none = rw g refl;
      }

  pub record WroteValue (i d : ℕ) (v : TValue) : Type 0 where
    pub piece : Piece RawValue
    pub whole : V (placed i (value_written d v)) piece
    pub fine : Fine (value_written d v) true
    pub means : value_of text labels (scope d) piece.tree ≡ v
    pub none : value_faults text labels (scope d) piece.tree ≡ []

  pub wrote_value : (i d : ℕ) (v : TValue) → d ≤ max_names → WellFormedValue p q d v → ValueFits v →
      Written text i (value_written d v) → WroteValue i d v
  wrote_value i d (Plain b []) n h f w =
      let a = wrote_base i b h.0 f (w.0, tt) in
      record {
        piece = ending (RPlain a.raw []) a.token.span.end;
        whole = rw a.at (v_base a.whole);
        fine = (a.valid, a.follows [] refl, tt);
        means = ap (λ (x : TBase). Plain x []) a.means;
        none = rw a.none refl;
      }
  wrote_value i d (Plain b (t ∷ ts)) n h f w =
      let last = right_bracket ∷ [] in
      let ls = types_written 0 d (t ∷ ts) in
      let j = i + length (bytes (base_written b)) + 1 in
      let a = wrote_base i b h.0 f (w.0, tt) in
      let r = wrote_types text j d t ts n h.1 (written_append text j ls last w.1.1).0 in
      let o = placing.place_of (i + length (bytes (base_written b))) left_bracket in
      let c = placing.place_of (j + size ls) right_bracket in
      record {
        piece = ending (RPlain a.raw r.raw) c.end;
        whole = rw (a.at, placed_append j ls last) (v_apply o c a.whole r.whole);
        fine = (
          a.valid,
          a.follows (list_written d (t ∷ ts)) refl,
          ((refl, tt), tt, fine_append ls last true r.fine ((refl, tt), tt, tt)),
        );
        means = ap₂ (λ (x : TBase) (us : List Ty). Plain x us) a.means r.means;
        none = rw (a.none, r.none) refl;
      }
  wrote_value i d (Pack t v s) n h f w =
      let last = right_bracket ∷ (space ∷ (Reserved (codes "as") ∷ (space ∷ type_written d s))) in
      let rest = comma ∷ (space ∷ (value_written d v ++ last)) in
      let j = i + 4 + 1 in
      let c = j + size (type_written d t) in
      let m = c + 1 + 1 in
      let e = m + size (value_written d v) in
      let x = written_append text j (type_written d t) rest w.1.1 in
      let y = written_append text m (value_written d v) last x.1.1.1 in
      let a = wrote_type text j d t n h.0 x.0 in
      let b = wrote_value m d v n h.1 f y.0 in
      let r = wrote_type text (e + 1 + 1 + 2 + 1) d s n h.2 y.1.1.1.1.1 in
      record {
        piece = ending (RPack a.piece.tree b.piece.tree r.piece.tree) r.piece.end;
        whole = rw (placed_append j (type_written d t) rest, placed_append m (value_written d v) last)
            (v_pack _ _ _ _ _ a.whole b.whole r.whole);
        fine = (
          (refl, tt),
          refl,
          (
            (refl, tt),
            tt,
            fine_append (type_written d t) rest true a.fine (
              (refl, tt),
              tt,
              (
                refl,
                tt,
                fine_append (value_written d v) last true b.fine
                    ((refl, tt), tt, (refl, tt, ((refl, tt), refl, (refl, tt, r.fine)))),
              ),
            ),
          ),
        );
        means = rw (a.means, b.means, r.means) refl;
        none = rw (a.none, b.none, r.none) refl;
      }

  pub record WroteInstr (i d : ℕ) (x : TInstr) : Type 0 where
    pub raw : RawInstr × Span
    pub whole : I (placed i (instr_written d x)) raw
    pub fine : Fine (instr_written d x) true
    pub means : instr_of text labels (scope d) raw.0 ≡ x
    pub none : instr_faults text labels (scope d) raw.0 ≡ []
    pub after : scope_after text raw.0 (scope d) ≡ scope (tree_of.names_after x d)

  pub wrote_instr : (i d : ℕ) (x : TInstr) → d ≤ max_names → WellFormedInstr p q d x → InstrValues ValueFits x →
      Written text i (instr_written d x) → WroteInstr i d x
  wrote_instr i d (Arith op rd rs v) n h f w =
      let o = wrote_op i op in
      let a = i + length (bytes (op_written op)) in
      let j = after_reg (after_reg (a + 1) rd + 1 + 1) rs + 1 + 1 in
      let r = wrote_value j d v n h.2 f w.1.1.1.1.1.1.1.1 in
      record {
        raw = (RArith op rd rs r.piece.tree, up_to (placing.place_of i (op_written op)) r.piece.end);
        whole = rw o.at (i_arith _ _ _ _ _ rd rs o.is r.whole);
        fine = (
          o.valid,
          o.follows _,
          (
            refl,
            tt,
            (
              h.0,
              refl,
              ((refl, tt), tt, (refl, tt, (h.1, refl, ((refl, tt), tt, (refl, tt, r.fine))))),
            ),
          ),
        );
        means = ap (Arith op rd rs) r.means;
        none = r.none;
        after = refl;
      }
  wrote_instr i d (Bnz x v) n h f w =
      let r = wrote_value (after_reg (i + 3 + 1) x + 1 + 1) d v n h.1 f w.1.1.1.1.1 in
      record {
        raw = (RBnz x r.piece.tree, up_to (placing.place_of i (Reserved (codes "bnz"))) r.piece.end);
        whole = i_bnz _ _ _ x r.whole;
        fine = ((refl, tt), refl, (refl, tt, (h.0, refl, ((refl, tt), tt, (refl, tt, r.fine)))));
        means = ap (Bnz x) r.means;
        none = r.none;
        after = refl;
      }
  wrote_instr i d (Ld rd rs x) n h f w = record {
    raw = (
      RLd rd rs x,
      up_to (placing.place_of i (Reserved (codes "ld")))
          (after_reg (after_reg (i + 2 + 1) rd + 1 + 1) rs + 1 + length (bytes (Number (pos x))) + 1),
    );
    whole = i_ld _ _ _ _ _ _ _ rd rs (pos x);
    fine = (
      (refl, tt),
      refl,
      (
        refl,
        tt,
        (
          h.0,
          refl,
          (
            (refl, tt),
            tt,
            (
              refl,
              tt,
              (
                h.1,
                refl,
                ((refl, tt), tt, (h.2, refl, ((refl, tt), tt, tt))),
              ),
            ),
          ),
        ),
      ),
    );
    means = refl;
    none = refl;
    after = refl;
  }
  wrote_instr i d (Malloc rd []) n h f w = record {
    raw = (
      RMalloc rd [],
      up_to (placing.place_of i (Reserved (codes "malloc"))) (after_reg (i + 6 + 1) rd + 1 + 1),
    );
    whole = i_malloc_none _ _ _ _ rd;
    fine = ((refl, tt), refl, (refl, tt, (h.0, refl, ((refl, tt), tt, ((refl, tt), tt, tt)))));
    means = refl;
    none = refl;
    after = refl;
  }
  wrote_instr i d (Malloc rd (t ∷ ts)) n h f w =
      let last = right_bracket ∷ [] in
      let ls = types_written 0 d (t ∷ ts) in
      let j = after_reg (i + 6 + 1) rd + 1 in
      let r = wrote_types text j d t ts n h.1 (written_append text j ls last w.1.1.1.1).0 in
      record {
        raw = (RMalloc rd r.raw, up_to (placing.place_of i (Reserved (codes "malloc"))) (j + size ls + 1));
        whole = rw (placed_append j ls last) (i_malloc _ _ _ _ rd r.whole);
        fine = (
          (refl, tt),
          refl,
          (
            refl,
            tt,
            (
              h.0,
              refl,
              ((refl, tt), tt, fine_append ls last true r.fine ((refl, tt), tt, tt)),
            ),
          ),
        );
        means = ap (Malloc rd) r.means;
        none = r.none;
        after = refl;
      }
  wrote_instr i d (Mov rd v) n h f w =
      let r = wrote_value (after_reg (i + 3 + 1) rd + 1 + 1) d v n h.1 f w.1.1.1.1.1 in
      record {
        raw = (RMov rd r.piece.tree, up_to (placing.place_of i (Reserved (codes "mov"))) r.piece.end);
        whole = i_mov _ _ _ rd r.whole;
        fine = ((refl, tt), refl, (refl, tt, (h.0, refl, ((refl, tt), tt, (refl, tt, r.fine)))));
        means = ap (Mov rd) r.means;
        none = r.none;
        after = refl;
      }
  wrote_instr i d (St rd x rs) n h f w = record {
    raw = (
      RSt rd x rs,
      up_to (placing.place_of i (Reserved (codes "st")))
          (after_reg (after_reg (i + 2 + 1) rd + 1 + length (bytes (Number (pos x))) + 1 + 1 + 1) rs),
    );
    whole = i_st _ _ _ _ _ _ _ rd rs (pos x);
    fine = (
      (refl, tt),
      refl,
      (
        refl,
        tt,
        (
          h.0,
          refl,
          (
            (refl, tt),
            tt,
            (
              h.1,
              refl,
              ((refl, tt), tt, ((refl, tt), tt, (refl, tt, (h.2, refl, tt)))),
            ),
          ),
        ),
      ),
    );
    means = refl;
    none = refl;
    after = refl;
  }
  wrote_instr i d (Unpack rd v) n h f w =
      let s = placing.place_of (i + 6 + 1) (TypeName d) in
      let b = i + 6 + 1 + length (bytes (TypeName d)) + 1 + 1 in
      let r = wrote_value (after_reg b rd + 1 + 1 + 1) d v n h.1 f w.1.1.1.1.1.1.1.1.1 in
      record {
        raw = (RUnpack s rd r.piece.tree, up_to (placing.place_of i (Reserved (codes "unpack"))) r.piece.end);
        whole = i_unpack _ _ _ _ _ _ _ rd r.whole;
        fine = (
          (refl, tt),
          refl,
          (
            (refl, tt),
            tt,
            (
              omega arith,
              refl,
              (
                (refl, tt),
                tt,
                (refl, tt, (h.0, refl, ((refl, tt), tt, ((refl, tt), tt, (refl, tt, r.fine))))),
              ),
            ),
          ),
        );
        means = ap (Unpack rd) r.means;
        none = r.none;
        after = ap (λ (x : Name). x ∷ scope d) w.1.1.0 ∙ sym (scope_next d);
      }

  pub record WroteEnd (i d : ℕ) (e : TEnd) : Type 0 where
    pub raw : RawEnd × Span
    pub whole : End (placed i (end_written d e)) raw
    pub fine : Fine (end_written d e) true
    pub means : end_of text labels (scope d) raw.0 ≡ e
    pub none : end_faults text labels (scope d) raw.0 ≡ []

  pub wrote_end : (i d : ℕ) (e : TEnd) → d ≤ max_names → WellFormedEnd p q d e → EndValues ValueFits e →
      Written text i (end_written d e) → WroteEnd i d e
  wrote_end i d (Jmp v) n h f w =
      let r = wrote_value (i + 3 + 1) d v n h f w.1.1 in
      record {
        raw = (RJmp r.piece.tree, up_to (placing.place_of i (Reserved (codes "jmp"))) r.piece.end);
        whole = e_jmp _ r.whole;
        fine = ((refl, tt), refl, (refl, tt, r.fine));
        means = ap Jmp r.means;
        none = r.none;
      }
  wrote_end i d Halt n h f w = record {
    raw = (RHalt, up_to (placing.place_of i (Reserved (codes "halt"))) (i + 4 + 1 + 3 + 1));
    whole = e_halt _ _ _ _;
    fine = ((refl, tt), refl, ((refl, tt), tt, ((refl, tt), refl, ((refl, tt), tt, tt))));
    means = refl;
    none = refl;
  }
