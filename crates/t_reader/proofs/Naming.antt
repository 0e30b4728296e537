-- The names of types: how a whole follows from its parts.
use Rattle.std.proofs.Common.{◌≡◌, ℕ, ◌+◌, ◌<◌, ◌≤◌, List, [], ◌∷◌, ◌++◌, length, map, drop, get_or, Vec, Global, refl}
use Rattle.std.proofs.Common.{sym, ◌∙◌, ap, true, false, Bool, append_assoc, Box}
use Rattle.std.proofs.lemmas.List.{map-append, append-nil}
use Rattle.std.proofs.Math.ListN.{drop_of_length-le}
use Rattle.idx_core.specs.declared.span.Span.{Span}
use Rattle.idx_core.specs.Names.{Name}
use Rattle.t_types.specs.declared.types.TType.{TType}
use Rattle.t_types.specs.declared.types.TType.TheVariants as T
use Rattle.t_types.specs.Tree.{Ty, CodeTy, ExistsTy, TupleTy, MoreFields, flagged}
use Rattle.t_types.specs.Read.{tree, flag, file, types}
use Rattle.t_types.proofs.Trees.{tree_Tuple, tree_Code}
use Rattle.t_terms.specs.declared.fault.TCode.TheVariants.{T06}
use Rattle.t_text.specs.Raw.{RCode, raw_regs, raw_fields}
use Rattle.t_text.specs.Names.{spelled, is_among, index_in, bind, type_of, file_of, fields_of, types_of}
use Rattle.t_text.specs.NameFaults.{type_faults, regs_faults, fields_faults, types_faults}
use Rattle.t_shapes.specs.declared.raw_types.RawType.{RawType}
use Rattle.t_shapes.specs.declared.raw_types.RawType.TheVariants as R
use Rattle.t_shapes.specs.declared.raw_types.RawFile.{RawFile}
use Rattle.t_shapes.specs.RawTypes.{raw, raw_reg, raw_field}
use Rattle.t_shapes.proofs.Raws.{raw_Tuple, raw_Code}
use Rattle.t_reader.specs.Resolve.{StopsAt}
use Rattle.t_terms.specs.declared.fault.TFault.{TFault}
use Rattle.t_terms.specs.declared.fault.TFault.TheVariants.{Refused}
use Rattle.t_reader.proofs.Found.{drop_bind, stop_left}
use Rattle.idx_core.proofs.Lists.{next_item}

-- the type that was found, with the names in scope after it
abbrev pub Done : List ℕ → List Name → RawType → List Name → TType → Type 0
Done text a ty b t = (b ≡ a) × (type_faults text a (raw ty) ≡ []) × (tree t ≡ type_of text a (raw ty))

module _ (text : List ℕ) (a : List Name) (ty : RawType) where
  pub int_whole : ty ≡ R.Int → Done text a ty a T.Int
  int_whole e = rw e (refl, refl, refl)

  pub name_stop : (s : Span) → ty ≡ R.Name s → is_among (spelled text s) a ≡ false →
      StopsAt (type_faults text a (raw ty)) (Refused T06 s)
  name_stop s e f = ([], rw (e, f) refl)

  pub name_whole : (s : Span) (i : ℕ) → ty ≡ R.Name s → (is_among (spelled text s) a ≡ true)
      × (index_in (spelled text s) a ≡ i) → Done text a ty a (T.Var i)
  name_whole s i e f = (refl, rw (e, f.0) refl, rw (e, f.1) refl)

  module _ (names : Vec Span Global) (f : RawFile) (ns : List Span) (rs : List (ℕ × Span × RawType))
      (e : ty ≡ R.Code names f) (p : ns ≡ names.items) (q : rs ≡ f.regs.items) (b : List Name) (n : b ≡ bind text ns a)
    where
      is_code : raw ty ≡ RCode names.items (raw_regs (map raw_reg f.regs.items))
      is_code = ap raw e ∙ raw_Code names f

      pub code_stop : (s : TFault) → StopsAt (regs_faults text b [] (raw_regs (map raw_reg rs))) s →
          StopsAt (type_faults text a (raw ty)) s
      code_stop s h = rw (is_code, ← p, ← q, ← n) h

      pub code_whole : (c d : List Name) (ts : Vec (ℕ × TType) Global) (k : ℕ) → k ≡ length ns → c ≡ b → d ≡ drop k c →
          regs_faults text b [] (raw_regs (map raw_reg rs)) ≡ [] →
          file ts.items ≡ file_of text b (raw_regs (map raw_reg rs)) →
          Done text a ty d (T.Code k (record { regs = ts }))
      code_whole c d ts k l u v g h = (
        v ∙ (ap (λ (x : List Name). drop k x) (u ∙ n)
            ∙ (ap (λ (x : ℕ). drop x (bind text ns a)) l ∙ drop_bind text ns a)),
        rw (is_code, ← p, ← q, ← n) g,
        tree_Code k (record { regs = ts }) ∙ rw (is_code, ← p, ← q, ← n, l) (ap (CodeTy (length ns)) h),
      )

  module _ (s : Span) (x : Box RawType Global) (body : RawType) (e : ty ≡ R.Some s x) (y : x.value ≡ body)
      (b : List Name) (n : b ≡ spelled text s ∷ a) where
    pub some_stop : (z : TFault) → StopsAt (type_faults text b (raw body)) z → StopsAt (type_faults text a (raw ty)) z
    some_stop z h = rw (e, y, ← n) h

    pub some_whole : (c d : List Name) (t u : TType) → Done text b body c t → d ≡ drop 1 c →
        tree u ≡ ExistsTy (tree t) → Done text a ty d u
    some_whole c d t u h v w =
        (v ∙ ap (λ (z : List Name). drop 1 z) (h.0 ∙ n), rw (e, y, ← n) h.1, w ∙ rw (e, y, ← n) (ap ExistsTy h.2))

-- the fields as a list
abbrev pub ty_fields : List ℕ → List Name → List (RawType × Bool) → List (Ty × Bool)
ty_fields text a xs = map (λ x. (type_of text a (raw x.0), x.1)) xs

is_flagged : (text : List ℕ) (a : List Name) (xs : List (RawType × Bool)) →
    fields_of text a (raw_fields (map raw_field xs)) ≡ flagged (ty_fields text a xs)
is_flagged text a [] = refl
is_flagged text a (x ∷ xs) = ap (MoreFields (type_of text a (raw x.0)) x.1) (is_flagged text a xs)

-- fields, of which those from k on are left
pub record FieldsLeft (text : List ℕ) (a : List Name) (xs : List (RawType × Bool)) (k : ℕ) (b : List Name)
    (made : List (TType × Bool)) : Type 0 where
  pub kept : b ≡ a
  pub faults : fields_faults text a (raw_fields (map raw_field xs))
      ≡ fields_faults text a (raw_fields (map raw_field (drop k xs)))
  pub trees : ty_fields text a xs ≡ map flag made ++ ty_fields text a (drop k xs)

module _ (text : List ℕ) (a : List Name) (xs : List (RawType × Bool)) where
  pub fields_start : FieldsLeft text a xs 0 a []
  fields_start = record { kept = refl; faults = refl; trees = refl }

  module _ (k : ℕ) (b : List Name) (made : List (TType × Bool)) (x : RawType × Bool) (l : k < length xs)
      (i : x ≡ get_or xs k x) (h : FieldsLeft text a xs k b made) where
    at_field : fields_faults text a (raw_fields (map raw_field xs)) ≡ type_faults text a (raw x.0)
        ++ fields_faults text a (raw_fields (map raw_field (drop (k + 1) xs)))
    at_field = h.faults ∙ rw (next_item xs k x i l) refl

    pub fields_stop : (s : TFault) → StopsAt (type_faults text b (raw x.0)) s →
        StopsAt (fields_faults text a (raw_fields (map raw_field xs))) s
    fields_stop s f = rw at_field (stop_left _ _ s (rw h.kept at f))

    pub fields_next : (c : List Name) (t : TType) (more : List (TType × Bool)) → Done text b x.0 c t →
        more ≡ made ++ (t, x.1) ∷ [] → FieldsLeft text a xs (k + 1) c more
    fields_next c t more d m =
        let e : tree t ≡ type_of text a (raw x.0) = d.2 ∙ ap (λ (z : List Name). type_of text z (raw x.0)) h.kept in
        record {
          kept = d.0 ∙ h.kept;
          faults = at_field ∙ rw (rw h.kept at d.1) refl;
          trees = h.trees
              ∙ rw (
                next_item xs k x i l,
                m,
                map-append flag made ((t, x.1) ∷ []),
                append_assoc (map flag made) (flag (t, x.1) ∷ []) (ty_fields text a (drop (k + 1) xs)),
                e,
              ) refl;
        }

  pub fields_whole : (ty : RawType) (v : Vec (RawType × Bool) Global) (k : ℕ) (b : List Name)
      (made : Vec (TType × Bool) Global) → ty ≡ R.Tuple v → xs ≡ v.items → length xs ≤ k →
      FieldsLeft text a xs k b made.items →
      Done text a ty b (T.Tuple made)
  fields_whole ty v k b made e p l h =
      let n : drop k xs ≡ [] = drop_of_length-le xs l in
      let f : fields_faults text a (raw_fields (map raw_field xs)) ≡ [] = h.faults ∙ rw n refl in
      let g : ty_fields text a xs ≡ map flag made.items = h.trees ∙ (rw n refl ∙ append-nil (map flag made.items)) in (
        h.kept,
        rw (ap raw e ∙ raw_Tuple v, ← p) f,
        tree_Tuple made
            ∙ rw (ap raw e ∙ raw_Tuple v, ← p) (ap TupleTy (sym (is_flagged text a xs ∙ ap flagged g))),
      )

  pub fields_stop_whole : (ty : RawType) (v : Vec (RawType × Bool) Global) (s : TFault) → ty ≡ R.Tuple v →
      xs ≡ v.items → StopsAt (fields_faults text a (raw_fields (map raw_field xs))) s →
      StopsAt (type_faults text a (raw ty)) s
  fields_stop_whole ty v s e p f = rw (ap raw e ∙ raw_Tuple v, ← p) f

-- a list of types, of which those from k on are left
pub record TypesLeft (text : List ℕ) (a : List Name) (xs : List RawType) (k : ℕ) (b : List Name) (made : List TType) :
    Type 0 where
  pub kept : b ≡ a
  pub faults : types_faults text a (map raw xs) ≡ types_faults text a (map raw (drop k xs))
  pub trees : types_of text a (map raw xs) ≡ types made ++ types_of text a (map raw (drop k xs))

module _ (text : List ℕ) (a : List Name) (xs : List RawType) where
  pub types_start : TypesLeft text a xs 0 a []
  types_start = record { kept = refl; faults = refl; trees = refl }

  module _ (k : ℕ) (b : List Name) (made : List TType) (x : RawType) (l : k < length xs) (i : x ≡ get_or xs k x)
      (h : TypesLeft text a xs k b made) where
    at_type : types_faults text a (map raw xs) ≡ type_faults text a (raw x)
        ++ types_faults text a (map raw (drop (k + 1) xs))
    at_type = h.faults ∙ rw (next_item xs k x i l) refl

    pub types_stop : (s : TFault) → StopsAt (type_faults text b (raw x)) s →
        StopsAt (types_faults text a (map raw xs)) s
    types_stop s f = rw at_type (stop_left _ _ s (rw h.kept at f))

    pub types_next : (c : List Name) (t : TType) (more : List TType) → Done text b x c t → more ≡ made ++ t ∷ [] →
        TypesLeft text a xs (k + 1) c more
    types_next c t more d m =
        let e : tree t ≡ type_of text a (raw x) = d.2 ∙ ap (λ (z : List Name). type_of text z (raw x)) h.kept in
        record {
          kept = d.0 ∙ h.kept;
          faults = at_type ∙ rw (rw h.kept at d.1) refl;
          trees = h.trees
              ∙ rw (
                next_item xs k x i l,
                m,
                map-append tree made (t ∷ []),
                append_assoc (map tree made) (tree t ∷ []) (types_of text a (map raw (drop (k + 1) xs))),
                e,
              ) refl;
        }

  pub types_whole : (k : ℕ) (b : List Name) (made : List TType) → length xs ≤ k → TypesLeft text a xs k b made →
      (b ≡ a) × (types_faults text a (map raw xs) ≡ []) × (types made ≡ types_of text a (map raw xs))
  types_whole k b made l h =
      let n : drop k xs ≡ [] = drop_of_length-le xs l in
      (h.kept, h.faults ∙ rw n refl, sym (h.trees ∙ (rw n refl ∙ append-nil (types made))))
