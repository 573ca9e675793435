-- How a view grows, and how a mark tells a former state of it.
use Rattle.std.specs.Prelude.{◌≡◌, List, ◌++◌, length}
use Rattle.case_view.specs.declared.kept.Case.{Case}
use Rattle.case_view.specs.declared.kept.Mark.{Mark}
use Rattle.case_view.specs.Views.{IsOrdered}

-- the list begins with the old one
abbrev pub Begins : {A : Type 0} → List A → List A → Type 0
Begins {A} old new = (more : List A) × (new ≡ old ++ more)

-- the worker stays, and each list begins with the old one
pub record HasGrown (old new : Case) : Type 0 where
  pub worker : new.worker ≡ old.worker
  pub nodes : Begins old.nodes new.nodes
  pub path : Begins old.path new.path
  pub worked : Begins old.worked new.worked
  pub listed : Begins old.listed new.listed

-- the mark has what tells the view from those that have grown out of it
pub record IsMarkOf (mark : Mark) (v : Case) : Type 0 where
  pub node : mark.node ≡ v.node
  pub events : mark.events ≡ v.events
  pub base : mark.base ≡ v.base
  pub splits : mark.splits ≡ v.splits
  pub given : mark.given ≡ v.given
  pub nodes : mark.nodes ≡ length v.nodes
  pub path : mark.path ≡ length v.path
  pub worked : mark.worked ≡ length v.worked
  pub listed : mark.listed ≡ length v.listed
  pub ordered : IsOrdered v
