-- The names of the layers below that several of these proofs use.
pub use Rattle.std.proofs.Common.{◌≡◌, ◌+◌, ◌-◌, ◌++◌, ◌<◌, length, refl, arith, map, Some, ap, sym, slice_get, ◌∙◌, length-append, ◌≢◌, ℕ, zero, suc, ◌≤◌, ◌==◌, cond, inl, inr, None, Result, Ok, Err, IfSome, IfNone, OnErr, List, [], ◌∷◌, set, get_or, take, drop, replicate, ap₂, subst, rules, Option, min, append_assoc}
pub use Rattle.std.proofs.lemmas.Grind.{common_steps}
pub use Rattle.std.proofs.lemmas.List.{length-replicate, map-set, length-map, length-set, length-drop, length-take, get_or_past, get_or-set_same, get_or-set_other, set_past, drop-append-le, take-append-le, drop-take, take-take, drop-set-lt, drop-set-add, drop_at, take_all, length-take-le, take_rest, drop_min}
pub use Rattle.std.proofs.lemmas.Option.{slice_get-map, gets, slice_get_past, slice_get-get_or}
pub use Rattle.std.specs.List.{HoldsAt, All, AllWithin, range_with_len}
pub use Rattle.std.specs.Option.{option_map}
pub use Rattle.bk_base.specs.Format.{parts, FormatPart, further, part_at, parts_after}
pub use Rattle.bk_meaning.specs.Causes.{byte_cause}
pub use Rattle.bk_meaning.specs.Library.{bytes_from, bytes_cause, written, written_cause}
pub use Rattle.bk_meaning.specs.Memory.{cells_of, cells_living, Object, living, dead, Memory, cells_at, made, dead_from, with_cell, read_byte}
pub use Rattle.bk_meaning.specs.Values.{address, Value, number}
pub use Rattle.bk_objects.specs.Memories.{memory_of, object_in, found, Laid}
pub use Rattle.bk_objects.specs.Views.{value_in, cell_in}
pub use Rattle.bk_objects.specs.declared.store.Life.{Life}
