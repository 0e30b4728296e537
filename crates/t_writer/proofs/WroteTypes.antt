-- A type that is written stands for itself, where the names around it are those of its depth.
use Rattle.std.proofs.Common.{◌≡◌, ◌≤◌, ◌<◌, pos, ℕ, zero, suc, ◌+◌, ◌-◌, List, [], ◌∷◌, ◌++◌, length, codes, Bool}
use Rattle.std.proofs.Common.{true, false, nat_eq, refl, sym, ap, ap₂, ◌∙◌, arith, append_assoc}
use Rattle.std.specs.List.{list_any}
use Rattle.std.proofs.lemmas.List.{append-nil}
use Rattle.std.proofs.lemmas.Bool.{le-ltb, ne_eqb}
use Rattle.idx_core.specs.declared.span.Span.{Span}
use Rattle.idx_core.specs.Names.{Name}
use Rattle.t_types.specs.Tree.{Ty, IntTy, VarTy, CodeTy, ExistsTy, TupleTy, TFile, NoRegs, MoreRegs, TFields, NoFields}
use Rattle.t_types.specs.Tree.{MoreFields}
use Rattle.t_types.specs.WellFormed.{max_names, WellFormed, WellFormedFile, RegsAbove, WellFormedFields}
use Rattle.t_types.specs.WellFormed.{WellFormedTypes}
use Rattle.t_text.specs.declared.token.Kind.{Kind}
use Rattle.t_text.specs.declared.token.Kind.TheVariants as k
use Rattle.t_text.specs.declared.token.Token.{Token}
use Rattle.t_text.specs.Raw.{RawTy, RInt, RName, RCode, RSome, RTuple, RawRegs, RawReg, raw_regs, RawField, raw_fields}
use Rattle.t_text.specs.Raw.{Piece, ending}
use Rattle.t_text.specs.Grammar.{tok, Names, ns_one, ns_more, Binds, bs_none, bs_names, IsFlag, is_zero, is_one, T}
use Rattle.t_text.specs.Grammar.{t_int, t_name, t_code, t_some, t_unit, t_tuple, File, f_none, f_regs, Rs, rs_one}
use Rattle.t_text.specs.Grammar.{rs_more, Fs, fs_one, fs_more, Ts, ts_one, ts_more}
use Rattle.t_text.specs.Names.{spelled, bind, insert_reg, type_of, file_of, fields_of, types_of}
use Rattle.t_text.specs.NameFaults.{type_faults, regs_faults, fields_faults, types_faults}
use Rattle.t_writer.specs.Lexeme.{Reserved, TypeName, Register, bytes}
use Rattle.t_writer.specs.Lexeme.{caret, colon, comma, dot, left_angle, left_brace, right_angle, right_brace}
use Rattle.t_writer.specs.Lexeme.{right_bracket}
use Rattle.t_writer.specs.Written.{bit, flag_written, names_written, binds_written, type_written, regs_written}
use Rattle.t_writer.specs.Written.{fields_written, file_written, types_written}
use Rattle.t_writer.proofs.Placed as placing
use Rattle.t_writer.proofs.Placed.{size, placed, placed_append, stops, Fine, fine_append, Written, written_append}
use Rattle.t_writer.proofs.Scopes.{scope, scope_next, Found, in_scope}

-- the names of a binder after the first
record MoreNames (i d n nth : ℕ) : Type 0 where
  spans : List Span
  extend : (w : List Token) (ns : List Span) → Names w ns →
      Names (w ++ placed i (names_written (suc nth) d n)) (ns ++ spans)
  count : length spans ≡ n
  fine : Fine (names_written (suc nth) d n) true
  bound : (text : List ℕ) → Written text i (names_written (suc nth) d n) → bind text spans (scope d) ≡ scope (d + n)

stops_names : (nth d n : ℕ) → stops (names_written (suc nth) d n) true ≡ true
stops_names nth d zero = refl
stops_names nth d (suc n) = refl

more_names : (i d n nth : ℕ) → d + n ≤ max_names → MoreNames i d n nth
more_names i d zero nth h = record {
  spans = [];
  extend = λ w ns x. rw (append-nil, append-nil) x;
  count = refl;
  fine = tt;
  bound = λ text w. ap scope (omega arith);
}
more_names i d (suc n) nth h =
    let s = placing.place_of (i + 1 + 1) (TypeName d) in
    let r = more_names (i + 1 + 1 + length (bytes (TypeName d))) (d + 1) n (suc nth) (omega arith) in
    record {
      spans = s ∷ r.spans;
      extend = λ w ns x.
          let c = placing.place_of i comma in
          simp append_assoc at (r.extend (w ++ tok k.Comma c ∷ (tok k.Name s ∷ [])) (ns ++ s ∷ []) (ns_more c s x));
      count = ap (λ m. suc m) r.count;
      fine = ((refl, tt), tt, (refl, tt, (omega arith, stops_names (suc nth) (d + 1) n, r.fine)));
      bound = λ text w.
          let e : spelled text s ∷ scope d ≡ scope (d + 1) =
          ap (λ (x : Name). x ∷ scope d) w.1.1.0 ∙ sym (scope_next d) in
          ap (λ (a : List Name). bind text r.spans a) e ∙ (r.bound text w.1.1.1 ∙ ap scope (omega arith));
    }

-- [ names ]
pub record WroteBinds (i d n : ℕ) : Type 0 where
  pub spans : List Span
  pub whole : Binds (placed i (binds_written d n)) spans
  pub count : length spans ≡ n
  pub fine : (b : Bool) → Fine (binds_written d n) b
  pub bound : (text : List ℕ) → Written text i (binds_written d n) → bind text spans (scope d) ≡ scope (d + n)

pub wrote_binds : (i d n : ℕ) → d + n ≤ max_names → WroteBinds i d n
wrote_binds i d zero h = record {
  spans = [];
  whole = bs_none _ _;
  count = refl;
  fine = λ b. ((refl, tt), tt, ((refl, tt), tt, tt));
  bound = λ text w. ap scope (omega arith);
}
wrote_binds i d (suc n) h =
    let s = placing.place_of (i + 1) (TypeName d) in
    let r = more_names (i + 1 + length (bytes (TypeName d))) (d + 1) n 0 (omega arith) in
    let ls = names_written 0 d (suc n) in
    record {
      spans = s ∷ r.spans;
      whole = rw (placed_append (i + 1) ls (right_bracket ∷ []))
          (bs_names _ _ (r.extend (tok k.Name s ∷ []) (s ∷ []) (ns_one s)));
      count = ap (λ m. suc m) r.count;
      fine = λ b. (
        (refl, tt),
        tt,
        fine_append ls (right_bracket ∷ []) b (omega arith, stops_names 0 (d + 1) n, r.fine)
            ((refl, tt), tt, tt),
      );
      bound = λ text w.
          let v = (written_append text (i + 1) ls (right_bracket ∷ []) w.1).0 in
          let e : spelled text s ∷ scope d ≡ scope (d + 1) = ap (λ (x : Name). x ∷ scope d) v.0 ∙ sym (scope_next d) in
          ap (λ (a : List Name). bind text r.spans a) e ∙ (r.bound text v.1 ∙ ap scope (omega arith));
    }

-- the kind of the token of a flag
abbrev flag_kind : Bool → Kind
flag_kind flag = k.Plain (pos (bit flag))

flag_is : (flag : Bool) → IsFlag (flag_kind flag) flag
flag_is true = is_one
flag_is false = is_zero

flag_valid : (flag : Bool) → bit flag ≤ 9
flag_valid true = omega arith
flag_valid false = omega arith

-- a register that is put below all of a file stands first
insert_low : (r d : ℕ) (t : Ty) (file : TFile) → RegsAbove r d file → insert_reg r t file ≡ MoreRegs r t file
insert_low r d t NoRegs h = refl
insert_low r d t (MoreRegs q u file) h = rw (le-ltb q r (omega (arith, h.0))) refl

-- each register of the list is at most this one
abbrev UpTo : ℕ → List ℕ → Type 0
UpTo low [] = Unit {0}
UpTo low (q ∷ before) = (q ≤ low) × UpTo low before

up_to_more : (low r : ℕ) (before : List ℕ) → low ≤ r → UpTo low before → UpTo r before
up_to_more low r [] h u = tt
up_to_more low r (q ∷ before) h u = (omega (arith, u.0), up_to_more low r before h u.1)

is_new : (low r : ℕ) (before : List ℕ) → low < r → UpTo low before → list_any (nat_eq r) before ≡ false
is_new low r [] h u = refl
is_new low r (q ∷ before) h u =
    let e : nat_eq r q ≡ false = ne_eqb r q (λ e. omega (arith, u.0)) in
    rw e (is_new low r before h u.1)

stops_regs : (i d : ℕ) (file : TFile) → stops (regs_written (suc i) d file) true ≡ true
stops_regs i d NoRegs = refl
stops_regs i d (MoreRegs r t file) = refl

stops_fields : (i d : ℕ) (fs : TFields) → stops (fields_written (suc i) d fs) true ≡ true
stops_fields i d NoFields = refl
stops_fields i d (MoreFields t flag fields) = refl

stops_types : (i d : ℕ) (ts : List Ty) → stops (types_written (suc i) d ts) true ≡ true
stops_types i d [] = refl
stops_types i d (t ∷ ts) = refl

-- What is written inside d type names, from the place i of the text on, stands for what it is written for.
module _ (text : List ℕ) where
  pub record WroteType (i d : ℕ) (t : Ty) : Type 0 where
    pub piece : Piece RawTy
    pub whole : T (placed i (type_written d t)) piece
    pub fine : Fine (type_written d t) true
    pub means : type_of text (scope d) piece.tree ≡ t
    pub none : type_faults text (scope d) piece.tree ≡ []

  pub record WroteFile (i d : ℕ) (file : TFile) : Type 0 where
    pub piece : Piece RawRegs
    pub whole : File (placed i (file_written d file)) piece
    pub fine : (b : Bool) → Fine (file_written d file) b
    pub means : file_of text (scope d) piece.tree ≡ file
    pub none : regs_faults text (scope d) [] piece.tree ≡ []

  -- registers after the first of a file, and fields and types after the first of a list
  record MoreFile (i d nth low : ℕ) (file : TFile) : Type 0 where
    regs : List RawReg
    extend : (u : List Token) (rs : List RawReg) → Rs u rs →
        Rs (u ++ placed i (regs_written (suc nth) d file)) (rs ++ regs)
    fine : Fine (regs_written (suc nth) d file) true
    means : file_of text (scope d) (raw_regs regs) ≡ file
    none : (before : List ℕ) → UpTo low before → regs_faults text (scope d) before (raw_regs regs) ≡ []

  record MoreTuple (i d nth : ℕ) (fields : TFields) : Type 0 where
    raw : List RawField
    extend : (u : List Token) (fs : List RawField) → Fs u fs →
        Fs (u ++ placed i (fields_written (suc nth) d fields)) (fs ++ raw)
    fine : Fine (fields_written (suc nth) d fields) true
    means : fields_of text (scope d) (raw_fields raw) ≡ fields
    none : fields_faults text (scope d) (raw_fields raw) ≡ []

  mutual
    pub wrote_type : (i d : ℕ) (t : Ty) → d ≤ max_names → WellFormed d t → Written text i (type_written d t) →
        WroteType i d t
    wrote_type i d IntTy n h w = record {
      piece = ending RInt (i + 3);
      whole = t_int _;
      fine = ((refl, tt), refl, tt);
      means = refl;
      none = refl;
    }
    wrote_type i d (VarTy v) n h w =
        let s = placing.place_of i (TypeName (d - 1 - v)) in
        let f : Found (spelled text s) (scope d) (d - 1 - (d - 1 - v)) =
        rw w.0 (in_scope d (d - 1 - v) (omega arith) (omega arith)) in
        record {
          piece = ending (RName s) s.end;
          whole = t_name s;
          fine = (omega arith, refl, tt);
          means = let e : d - 1 - (d - 1 - v) ≡ v = omega arith in ap VarTy (f.at ∙ e);
          none = rw f.among refl;
        }
    wrote_type i d (CodeTy owes file) n h w =
        let bs = binds_written d owes in
        let fs = file_written (d + owes) file in
        let v = written_append text (i + 3) bs fs w.1 in
        let b = wrote_binds (i + 3) d owes h.0 in
        let f = wrote_file (i + 3 + size bs) (d + owes) file h.0 h.1 v.1 in
        let e : bind text b.spans (scope d) ≡ scope (d + owes) = b.bound text v.0 in
        record {
          piece = ending (RCode b.spans f.piece.tree) f.piece.end;
          whole = rw (placed_append (i + 3) bs fs)
              (t_code (placing.place_of i (Reserved (codes "all"))) b.whole f.whole);
          fine = ((refl, tt), refl, fine_append bs fs true (b.fine true) (f.fine true));
          means = rw (b.count, e, f.means) refl;
          none = rw (e, f.none) refl;
        }
    wrote_type i d (ExistsTy t) n h w =
        let s = placing.place_of (i + 4 + 1) (TypeName d) in
        let j = i + 4 + 1 + length (bytes (TypeName d)) + 1 + 1 in
        let r = wrote_type j (d + 1) t h.0 h.1 w.1.1.1.1.1 in
        let e : spelled text s ∷ scope d ≡ scope (d + 1) =
        ap (λ (x : Name). x ∷ scope d) w.1.1.0 ∙ sym (scope_next d) in
        record {
          piece = ending (RSome s r.piece.tree) r.piece.end;
          whole = t_some (placing.place_of i (Reserved (codes "some"))) s
              (placing.place_of (i + 4 + 1 + length (bytes (TypeName d))) dot) r.whole;
          fine = ((refl, tt), refl, (refl, tt, (omega arith, refl, ((refl, tt), tt, (refl, tt, r.fine)))));
          means = rw (e, r.means) refl;
          none = rw (e, r.none) refl;
        }
    wrote_type i d (TupleTy NoFields) n h w = record {
      piece = ending (RTuple (raw_fields [])) (i + 1 + 1);
      whole = t_unit (placing.place_of i left_angle) (placing.place_of (i + 1) right_angle);
      fine = ((refl, tt), tt, ((refl, tt), tt, tt));
      means = refl;
      none = refl;
    }
    wrote_type i d (TupleTy (MoreFields t flag fields)) n h w =
        let last = right_angle ∷ [] in
        let more = fields_written 1 d fields in
        let ls = fields_written 0 d (MoreFields t flag fields) in
        let m = i + 1 + size (type_written d t) in
        let v = (written_append text (i + 1) ls last w.1).0 in
        let x = written_append text (i + 1) (type_written d t) (caret ∷ (flag_written flag ∷ more)) v in
        let a = wrote_type (i + 1) d t n h.0 x.0 in
        let r = more_tuple (m + 1 + 1) d 0 fields n h.1 x.1.1.1 in
        let f : RawField = record { ty = a.piece.tree; flag = flag } in
        record {
          piece = ending (RTuple (raw_fields (f ∷ r.raw))) (i + 1 + size ls + 1);
          whole = rw (
            placed_append (i + 1) ls last,
            placed_append (i + 1) (type_written d t) (caret ∷ (flag_written flag ∷ more)),
          )
              (t_tuple (placing.place_of i left_angle)
              (placing.place_of (i + 1 + size ls) right_angle)
              (simp append_assoc at
              (r.extend _ (f ∷ [])
              (fs_one (placing.place_of m caret) (placing.place_of (m + 1) (flag_written flag))
              a.whole (flag_is flag)))));
          fine = (
            (refl, tt),
            tt,
            fine_append ls last true
                (fine_append (type_written d t) (caret ∷ (flag_written flag ∷ more)) true a.fine
                ((refl, tt), tt, (flag_valid flag, stops_fields 0 d fields, r.fine)))
                ((refl, tt), tt, tt),
          );
          means = ap₂ (λ (u : Ty) (us : TFields). TupleTy (MoreFields u flag us)) a.means r.means;
          none = rw (a.none, r.none) refl;
        }

    pub wrote_file : (i d : ℕ) (file : TFile) → d ≤ max_names → WellFormedFile d file →
        Written text i (file_written d file) → WroteFile i d file
    wrote_file i d NoRegs n h w = record {
      piece = ending (raw_regs []) (i + 1 + 1);
      whole = f_none (placing.place_of i left_brace) (placing.place_of (i + 1) right_brace);
      fine = λ b. ((refl, tt), tt, ((refl, tt), tt, tt));
      means = refl;
      none = refl;
    }
    wrote_file i d (MoreRegs r t file) n h w =
        let last = right_brace ∷ [] in
        let more = regs_written 1 d file in
        let ls = regs_written 0 d (MoreRegs r t file) in
        let s = placing.place_of (i + 1) (Register r) in
        let j = i + 1 + length (bytes (Register r)) + 1 in
        let v = (written_append text (i + 1) ls last w.1).0 in
        let x = written_append text j (type_written d t) more v.1.1 in
        let a = wrote_type j d t n h.2 x.0 in
        let q = more_file (j + size (type_written d t)) d 0 r file n h.3 x.1 in
        let f : RawReg = record { reg = r; place = s; ty = a.piece.tree } in
        record {
          piece = ending (raw_regs (f ∷ q.regs)) (i + 1 + size ls + 1);
          whole = rw (placed_append (i + 1) ls last, placed_append j (type_written d t) more)
              (f_regs (placing.place_of i left_brace)
              (placing.place_of (i + 1 + size ls) right_brace)
              (q.extend _ (f ∷ [])
              (rs_one r s (placing.place_of (i + 1 + length (bytes (Register r))) colon) a.whole)));
          fine = λ b. (
            (refl, tt),
            tt,
            fine_append ls last b (
              (omega (arith, h.0), h.1),
              refl,
              (
                (refl, tt),
                tt,
                fine_append (type_written d t) more true (rw (stops_regs 0 d file) a.fine) q.fine,
              ),
            )
                ((refl, tt), tt, tt),
          );
          means = rw (a.means, q.means) (insert_low r d t file h.3);
          none = rw (a.none, q.none (r ∷ []) (omega arith, tt)) refl;
        }

    more_file : (i d nth low : ℕ) (file : TFile) → d ≤ max_names → RegsAbove low d file →
        Written text i (regs_written (suc nth) d file) → MoreFile i d nth low file
    more_file i d nth low NoRegs n h w = record {
      regs = [];
      extend = λ u rs x. rw (append-nil, append-nil) x;
      fine = tt;
      means = refl;
      none = λ before u. refl;
    }
    more_file i d nth low (MoreRegs r t file) n h w =
        let more = regs_written (suc (suc nth)) d file in
        let s = placing.place_of (i + 1 + 1) (Register r) in
        let c = i + 1 + 1 + length (bytes (Register r)) in
        let j = c + 1 in
        let x = written_append text j (type_written d t) more w.1.1.1.1 in
        let a = wrote_type j d t n h.2 x.0 in
        let q = more_file (j + size (type_written d t)) d (suc nth) r file n h.3 x.1 in
        let f : RawReg = record { reg = r; place = s; ty = a.piece.tree } in
        record {
          regs = f ∷ q.regs;
          extend = λ u rs y. rw (placed_append j (type_written d t) more)
              (simp append_assoc at
              (q.extend _ _
              (rs_more (placing.place_of i comma) r s (placing.place_of c colon) y a.whole)));
          fine = (
            (refl, tt),
            tt,
            (
              refl,
              tt,
              (
                (omega (arith, h.0), h.1),
                refl,
                (
                  (refl, tt),
                  tt,
                  fine_append (type_written d t) more true (rw (stops_regs (suc nth) d file) a.fine) q.fine,
                ),
              ),
            ),
          );
          means = rw (a.means, q.means) (insert_low r d t file h.3);
          none = λ before u.
              rw (
                is_new low r before h.0 u,
                a.none,
                q.none (r ∷ before) (omega arith, up_to_more low r before (omega (arith, h.0)) u),
              ) refl;
        }

    more_tuple : (i d nth : ℕ) (fields : TFields) → d ≤ max_names → WellFormedFields d fields →
        Written text i (fields_written (suc nth) d fields) → MoreTuple i d nth fields
    more_tuple i d nth NoFields n h w = record {
      raw = [];
      extend = λ u fs x. rw (append-nil, append-nil) x;
      fine = tt;
      means = refl;
      none = refl;
    }
    more_tuple i d nth (MoreFields t flag fields) n h w =
        let rest = caret ∷ (flag_written flag ∷ fields_written (suc (suc nth)) d fields) in
        let j = i + 1 + 1 in
        let m = j + size (type_written d t) in
        let x = written_append text j (type_written d t) rest w.1.1 in
        let a = wrote_type j d t n h.0 x.0 in
        let r = more_tuple (m + 1 + 1) d (suc nth) fields n h.1 x.1.1.1 in
        let f : RawField = record { ty = a.piece.tree; flag = flag } in
        record {
          raw = f ∷ r.raw;
          extend = λ u fs y. rw (placed_append j (type_written d t) rest)
              (simp append_assoc at
              (r.extend _ _
              (fs_more (placing.place_of i comma) (placing.place_of m caret)
              (placing.place_of (m + 1) (flag_written flag)) y a.whole (flag_is flag))));
          fine = (
            (refl, tt),
            tt,
            (
              refl,
              tt,
              fine_append (type_written d t) rest true a.fine
                  ((refl, tt), tt, (flag_valid flag, stops_fields (suc nth) d fields, r.fine)),
            ),
          );
          means = ap₂ (λ (u : Ty) (us : TFields). MoreFields u flag us) a.means r.means;
          none = rw (a.none, r.none) refl;
        }

  -- types after the first of a list
  record MoreList (i d nth : ℕ) (ts : List Ty) : Type 0 where
    raw : List RawTy
    extend : (u : List Token) (rs : List RawTy) → Ts u rs →
        Ts (u ++ placed i (types_written (suc nth) d ts)) (rs ++ raw)
    fine : Fine (types_written (suc nth) d ts) true
    means : types_of text (scope d) raw ≡ ts
    none : types_faults text (scope d) raw ≡ []

  more_list : (i d nth : ℕ) (ts : List Ty) → d ≤ max_names → WellFormedTypes d ts →
      Written text i (types_written (suc nth) d ts) → MoreList i d nth ts
  more_list i d nth [] n h w = record {
    raw = [];
    extend = λ u rs x. rw (append-nil, append-nil) x;
    fine = tt;
    means = refl;
    none = refl;
  }
  more_list i d nth (t ∷ ts) n h w =
      let rest = types_written (suc (suc nth)) d ts in
      let j = i + 1 + 1 in
      let x = written_append text j (type_written d t) rest w.1.1 in
      let a = wrote_type j d t n h.0 x.0 in
      let r = more_list (j + size (type_written d t)) d (suc nth) ts n h.1 x.1 in
      record {
        raw = a.piece.tree ∷ r.raw;
        extend = λ u rs y. rw (placed_append j (type_written d t) rest)
            (simp append_assoc at (r.extend _ _ (ts_more (placing.place_of i comma) y a.whole)));
        fine = (
          (refl, tt),
          tt,
          (refl, tt, fine_append (type_written d t) rest true (rw (stops_types (suc nth) d ts) a.fine) r.fine),
        );
        means = ap₂ (λ (u : Ty) (us : List Ty). u ∷ us) a.means r.means;
        none = rw (a.none, r.none) refl;
      }

  -- one type or more, before what ends a word
  pub record WroteTypes (i d : ℕ) (ts : List Ty) : Type 0 where
    pub raw : List RawTy
    pub whole : Ts (placed i (types_written 0 d ts)) raw
    pub fine : Fine (types_written 0 d ts) true
    pub means : types_of text (scope d) raw ≡ ts
    pub none : types_faults text (scope d) raw ≡ []

  pub wrote_types : (i d : ℕ) (t : Ty) (ts : List Ty) → d ≤ max_names → WellFormedTypes d (t ∷ ts) →
      Written text i (types_written 0 d (t ∷ ts)) → WroteTypes i d (t ∷ ts)
  wrote_types i d t ts n h w =
      let rest = types_written 1 d ts in
      let x = written_append text i (type_written d t) rest w in
      let a = wrote_type i d t n h.0 x.0 in
      let r = more_list (i + size (type_written d t)) d 0 ts n h.1 x.1 in
      record {
        raw = a.piece.tree ∷ r.raw;
        whole = rw (placed_append i (type_written d t) rest) (r.extend _ (a.piece.tree ∷ []) (ts_one a.whole));
        fine = fine_append (type_written d t) rest true (rw (stops_types 0 d ts) a.fine) r.fine;
        means = ap₂ (λ (u : Ty) (us : List Ty). u ∷ us) a.means r.means;
        none = rw (a.none, r.none) refl;
      }
