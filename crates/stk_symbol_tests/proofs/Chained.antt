-- What a store of terms keeps over two calls.
use Rattle.stk_values.specs.Keeping.{Keeps}
use Rattle.stk_symbols.specs.Symbolic.{Symbolic, Serves, HasKey, IsMade, Shows}

pub keeps_then : (s t u : Symbolic) → Keeps Serves HasKey IsMade Shows s t → Keeps Serves HasKey IsMade Shows t u → Keeps Serves HasKey IsMade Shows s u
keeps_then s t u g h = record {
  served = λ m x. h.served m (g.served m x);
  served_before = λ m x. g.served_before m (h.served_before m x);
  keys = λ key k x. h.keys key k (g.keys key k x);
  keys_before = λ key k x. g.keys_before key k (h.keys_before key k x);
  made_still = λ k v x. h.made_still k v (g.made_still k v x);
  shown = λ m k v z x. h.shown m k v z (g.shown m k v z x);
}
