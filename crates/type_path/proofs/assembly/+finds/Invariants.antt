use Rattle.std.proofs.Common.{◌≡◌, drop}
use Rattle.t_types.specs.Read.{file, fields}
use Rattle.type_path.specs.Assembly.{in_files, in_fields, taken}
use Rattle.type_path.proofs.assembly.+finds.Given as goal

abbrev pub invariant-files_difference-loop-i : goal.invariant-files_difference-loop-i
invariant-files_difference-loop-i l =
    in_files (file l.f) (file l.g) ≡ in_files (file (drop l.i l.f)) (file (drop l.i l.g))

abbrev pub invariant-fields_difference-loop-i : goal.invariant-fields_difference-loop-i
invariant-fields_difference-loop-i l =
    in_fields 0 (taken l.loose (fields l.fs) (fields l.gs)) (fields l.gs)
    ≡ in_fields l.i (taken l.loose (fields (drop l.i l.fs)) (fields (drop l.i l.gs))) (fields (drop l.i l.gs))
