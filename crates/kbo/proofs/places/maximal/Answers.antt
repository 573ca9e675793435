use Rattle.std.proofs.Common.{ap, ◌∙◌}
use Rattle.std.specs.List.{slice_get}
use Rattle.kbo.proofs.PlaceLemmas.{atom_size}
use Rattle.kbo.proofs.places.maximal.Goals as goal

pub none_greater-requires-clause-size : goal.none_greater-requires-clause-size
none_greater-requires-clause-size c = atom_size c.args.clause.now c.args.part c.args.place c.in-Some.atom.now (c.in-Some.ensures ∙ ap (λ l. slice_get l c.args.place) c.part.ensures) c.requires

pub none_greater-requires-then-none_greater-clause-size : goal.none_greater-requires-then-none_greater-clause-size
none_greater-requires-then-none_greater-clause-size c = atom_size c.args.clause.now c.args.part c.args.place c.in-Some.atom.now (c.in-Some.ensures ∙ ap (λ l. slice_get l c.args.place) c.part.ensures) c.requires
