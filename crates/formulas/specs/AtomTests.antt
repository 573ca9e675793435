-- Tests of the atoms of formulas.
use Rattle.std.specs.Prelude.{Bool, true, ◌&&◌}
use Rattle.std.specs.List.{list_all}
use Rattle.spl_terms.specs.declared.atom.Atom.{Atom}
use Rattle.formulas.specs.declared.tree.Tree.{Tree, Tree-F, fold-Tree}
use Rattle.formulas.specs.declared.tree.Tree.TheOpen as layer

abbrev pub all_step : (Atom → Bool) → Tree-F Bool → Bool
all_step test layer.True = true
all_step test layer.False = true
all_step test (layer.Atom a) = test a
all_step test (layer.Not b) = b
all_step test (layer.And bs) = list_all (λ b. b) bs
all_step test (layer.Or bs) = list_all (λ b. b) bs
all_step test (layer.Implies b c) = b && c
all_step test (layer.Equiv b c) = b && c
all_step test (layer.Forall x b) = b
all_step test (layer.Exists x b) = b

-- whether each atom of the formula passes the test
abbrev pub all_atoms : (Atom → Bool) → Tree → Bool
all_atoms test = fold-Tree Bool (all_step test)
