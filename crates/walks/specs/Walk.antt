-- What a walk by hand cites of the logic, under one name.
pub use Rattle.std.specs.Prelude.{Bool, true, false, ◌≡◌, refl, List, [], ◌∷◌, ℕ, ◌<◌, ◌^◌, ltb, length, get_or}
pub use Rattle.std.proofs.Common.{sym, ◌∙◌, ap, subst, lit<, ltb→lt, nltb→le}
pub use seplogic.Ra.Ura.{Ura}
pub use base.Fraction.{full_share}
pub use mir.Syntax.{Ty, Sym, named, erased, imm, mut, w8, w32, w64, ty_int, ty_ref, ty_bool, ty_ptr, ty_unit, ty_struct, tcons, tnil}
pub use mir.Val.{Val, vunit, vbool, vint, vstruct, vcons, vnil}
pub use base.Logic.{SProp, ent, emp, via, fst∗}
pub use base.Fml.{Lft, Share, GName, flft}
pub use prog.Memory.{Memory}
pub use prog.Routine.{Routine}
pub use prog.Wp.{Heap, Out, Wp, WpFn, Tables, after_block, after_seq, at_return}
pub use ghost.Atoms.{Atoms}
pub use types.Logic.{Logic}
pub use contract.Lifetimes.{Lfts, Shares}
pub use contract.Monad.{Fun}
pub use contract.Running.{tables}
pub use types.Kit.{Sq, ‵, runs, at_ret, any_q, ◌$◌, !, by, move, drop, rewrite}
pub use types.Tokens.{lft_new, lft_end}
pub use types.Run.{look, look_raw, lit, unit_lit, stop, hop, from, load, bin, un, of_opd, and_then, no_more, assigns, assigns_last, init, store, store_raw, first, branches, blocks, loops, stays, leaves_loop, again, Below, forget, skips, exec, returns, returns_within}
pub use sound.WpLaws.{WpFn-mono, FmC, fm_of}
pub use denote.RattleType.{RattleType, flat}
pub use denote.Laws.{Is, shows}
pub use denote.Memory.{pointee}
pub use denote.Plain.{Nothing, Nothing-Makes, Nothing-Lawful, uint_Makes, uint_Lawful, uint_vals, uint_Tells}
pub use Rattle.std.specs.Borrow.{u8, u32, usize, Bor, MutBor}
pub use denote.Slice.{slice_ty, slice_val, shr_slice_vals, mut_slice_vals, ShrSlice, Room, shr_slice_Tells, shr_slice_Lawful}
pub use denote.Steps.{only, owned}
pub use denote.Triple.Entry.{on_entry}
pub use denote.Triple.Spec.{Meets, triple_of}
pub use denote.Triple.Table.{entered, cited}
pub use denote.Triple.Walked.{walk_of, walked, walk_Meets}
