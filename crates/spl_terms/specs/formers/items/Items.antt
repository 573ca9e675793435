-- A list of items as a type that may hold the type that holds it: its value is a list, stored as a `Vec`'s is.
use mathlib.Core.Path.{◌≡◌, refl, sym}
use mathlib.Core.List.{List, []}
use mathlib.Core.Former.{Former, this, list, via, children}
use base.Stored.{code_map}
use denote.RattleType.{RattleType}
use denote.HoleLaws.{Alike}
use denote.HolePlaces.{Recodes, struct_places, laid}
use denote.Hole.Carrier.{listed, list-listed}
use denote.Hole.Fix.{over}
use denote.Param.Weighed.{Weighed, w_list}
use denote.Model.Placed.{view_places}
use Rattle.std.specs.formers.vec.Vec as of_vec
use Rattle.std.specs.declared.alloc.Global.{Global}
use Rattle.std.specs.contracts.alloc.Global as global
use Rattle.std.specs.contracts.impls.GlobalAllocator.TheImpl.{ghosts}
use Rattle.spl_terms.specs.declared.items.Items.TheInside.{Inside}
use Rattle.spl_terms.specs.declared.items.Items.TheView.{view, invariant}
use Rattle.spl_terms.specs.contracts.items.Items as contract
use Rattle.spl_terms.specs.contracts.items.Items.TheInside as inside

-- a list splits as lists do: its shape is the list of its items' shapes
abbrev pub the_former : Former {0} → Former {0}
the_former elements = list elements

abbrev pub the_weighed : {elements : Former {0}} → Weighed elements → Weighed (the_former elements)
the_weighed weighed = w_list weighed

pub the_empty : List ⊥
the_empty = []

abbrev pub the_items : (X : Type 0) → List X → List X
the_items X items = items

pub the_items_listed : (X : Type 0) (items : List X) → listed _ (children (the_former this) X items) ≡ the_items X items
the_items_listed X items = list-listed X items

-- the one field, a `Vec` of the items
abbrev one_field : Former {0}
one_field = via (of_vec.the_former this Global) Inside (λ X i. i.items) (λ X v. record { items = v }) (λ X i. refl) (λ X v. refl)

module _ (R S : RattleType) (h : R.Denot → S.Denot) where
  pub the_places : Alike R S h → Alike (contract.the_row R) (contract.the_row S) ((the_former this).map R.Denot S.Denot h)
  the_places alike =
      let placed = struct_places (inside.the_type R) (inside.the_type S) (of_vec.mapped h, tt) _ (λ d. refl) refl (laid _ _ _ (of_vec.the_places global.the_row ghosts R S h alike), tt) in
      view_places one_field (list this) view (λ X Y k i. refl) (λ X i. refl) R.Denot S.Denot h (contract.the_row R).coded (contract.the_row S).coded
      (invariant R.Denot) (invariant S.Denot) (λ i p q. refl) (λ i p q. refl) (λ i e. tt) (λ i e. tt) (over (inside.the_row R)) (over (inside.the_row S)) placed

  pub the_codes_placed : Recodes R S h → Recodes (contract.the_row R) (contract.the_row S) ((the_former this).map R.Denot S.Denot h)
  the_codes_placed recodes items = sym (code_map R.coded.code S.coded.code h (λ x. sym (recodes x)) items)
