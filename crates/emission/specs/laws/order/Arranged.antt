-- The children of a place in the order of a walk, and what is known of them.
use Prim.{Unit}
use Rattle.std.specs.Prelude.{◌≡◌, Bool, true, false, ◌&&◌, List, [], ◌∷◌, ℕ, ◌+◌, ◌<◌, ◌≤◌, ◌^◌, eqb, ltb}
use Rattle.logic.specs.Test.{when◌then◌else◌}
use Rattle.text.specs.Name.{lt_name}
use Rattle.model.specs.Kinds.{union_kind, map_mode_kind, is_struct, Step, field, element, position, key, value, variant, variant_of}
use Rattle.model.specs.Emission.{name_of}
use Rattle.refine.specs.laws.numbered.Tree.{Spot, spot, Spots, no_spots, child, num}
use Rattle.places.specs.Reading.{next_child}

-- ---- by number, and by name
unfoldable pub insert_number_s : Step → ℕ → ℕ → Spot → Spots → Spots
insert_number_s s h m u no_spots = child s h m u no_spots
insert_number_s s h m u (child r i j v ks) = when ltb (variant_of s) (variant_of r) then child s h m u (child r i j v ks) else child r i j v (insert_number_s s h m u ks)

unfoldable pub by_number_s : Spots → Spots
by_number_s no_spots = no_spots
by_number_s (child s h m u ks) = insert_number_s s h m u (by_number_s ks)

unfoldable pub insert_name_s : Step → ℕ → ℕ → Spot → Spots → Spots
insert_name_s s h m u no_spots = child s h m u no_spots
insert_name_s s h m u (child r i j v ks) = when lt_name (name_of r) (name_of s) then child r i j v (insert_name_s s h m u ks) else child s h m u (child r i j v ks)

unfoldable pub by_name_s : Spots → Spots
by_name_s no_spots = no_spots
by_name_s (child s h m u ks) = insert_name_s s h m u (by_name_s ks)

unfoldable pub order_s : Bool → ℕ → Spots → Spots
order_s sorted kind ks = when eqb kind union_kind then by_number_s ks else when sorted && eqb kind map_mode_kind then by_name_s ks else ks

-- ---- `next_child` gives them one after another, and then 0
abbrev pub Enumerates : List ℕ → Bool → ℕ → ℕ → ℕ → Spots → Type 0
Enumerates t sorted kind place last no_spots = next_child t sorted kind place last ≡ 0
Enumerates t sorted kind place last (child s h m u ks) = (next_child t sorted kind place last ≡ num u) × Enumerates t sorted kind place (num u) ks

-- numbers rise, from a slot on
abbrev pub Rising : ℕ → Spots → Type 0
Rising slot no_spots = Unit {0}
Rising slot (child s h m u ks) = (slot ≤ variant_of s) × Rising (variant_of s + 1) ks

-- at every place, in both orders; a union's numbers rise
abbrev mutual
  pub Orders : List ℕ → Spot → Type 0
  Orders t (spot p b k m ks) = Enumerates t false k p 0 (order_s false k ks) × Enumerates t true k p 0 (order_s true k ks) × OrdersIn t ks × (eqb k union_kind ≡ true → Rising 0 (order_s false k ks))

  pub OrdersIn : List ℕ → Spots → Type 0
  OrdersIn t no_spots = Unit {0}
  OrdersIn t (child s h m u ks) = Orders t u × OrdersIn t ks

-- ---- steps as the kind makes them: a union has variants, a struct fields; numbers are of 16 bits
abbrev pub step_fits : ℕ → Step → Bool
step_fits kind (field name) = when eqb kind union_kind then false else true
step_fits kind element = when eqb kind union_kind then false else when is_struct kind then false else true
step_fits kind (position i) = when eqb kind union_kind then false else when is_struct kind then false else ltb i (2 ^ 16)
step_fits kind key = when eqb kind union_kind then false else when is_struct kind then false else true
step_fits kind value = when eqb kind union_kind then false else when is_struct kind then false else true
step_fits kind (variant number name) = when is_struct kind then false else ltb number (2 ^ 16)

-- kinds are of 8 bits
abbrev mutual
  pub FitS : Spot → Type 0
  FitS (spot p b k m ks) = (k < 256) × FitIn k ks

  pub FitIn : ℕ → Spots → Type 0
  FitIn kind no_spots = Unit {0}
  FitIn kind (child s h m u ks) = (step_fits kind s ≡ true) × FitS u × FitIn kind ks

-- the numbers of the children
abbrev pub nums_of : Spots → List ℕ
nums_of no_spots = []
nums_of (child s h m u ks) = num u ∷ nums_of ks
