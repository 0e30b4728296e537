use Rattle.std.proofs.Common.{arith}
use Rattle.t_types.specs.Read.{tree}
use Rattle.type_path.specs.Paths.{path_of}
use Rattle.talc_faults.proofs.Room.{bound_room}
use Rattle.talc_faults.proofs.assembly_apart.write_part.Goals as goal

pub write_type-requires : goal.write_type-requires
write_type-requires c =
    let le = c.requires in
    let inner = bound_room c.args.names (path_of c.args.path.now) 0 (tree c.args.ty.now) in
    omega (arith, le, inner, c.in_ok-depth.ensures)
