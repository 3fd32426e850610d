-- What the outside answers: loads, stores, calls, the writes of the outside, registers without initialiser and
-- addresses.
use Rattle.std.proofs.Common.{◌≡◌, ℕ, ◌+◌, ◌^◌, ◌<◌, ◌==◌, Bool, true, false, List, [], ◌∷◌, ℤ, pos, Option, Some, None, refl, sym, ap, ◌∙◌, subst, arith, get_or, set}
use Rattle.std.proofs.lemmas.Grind.{common_steps}
use Rattle.std.specs.Prelude.{if◌then◌else◌, length}
use Rattle.stk_ctype.specs.declared.kind.IntKind.{IntKind}
use Rattle.stk_ctype.specs.Kinds.{bytes_of}
use Rattle.stk_ctype.specs.Types.{TypeTree}
use Rattle.stk_numbers.specs.Kinds.{fits, wrap}
use Rattle.stk_numbers.proofs.Wrapping.{wrap_in_range}
use Rattle.stk_type_rules.specs.Types.{is_void}
use Rattle.stk_meaning.specs.Typings.{number_kind, is_among, converted}
use Rattle.stk_meaning.specs.Operations.{to_address}
use Rattle.stk_meaning.specs.Places.{Target, in_register, in_kept, in_object, unnamed}
use Rattle.stk_meaning.specs.Visits.{Visits}
use Rattle.stk_meaning.specs.Changes.{Spot, register_spot, kept_spot, is_register_spot, is_any_kept, stored_in, changes}
use Rattle.stk_meaning.specs.Worlds.{World, Ran, Went, and_then, gives, told, answered, written}
use Rattle.stk_meaning.specs.Expressions.{number_in, stored_at}
use Rattle.stk_meaning.specs.Keys.{Key, address_key, unset_key, load_key, call_key}
use Rattle.stk_meaning.specs.Memory.{number_at, stored, put_all}
use Rattle.stk_meaning.specs.Paths.{InputMap, KeptNumbers, kept_or, all_forgotten, path_world}
use Rattle.stk_meaning.specs.Executions.{Answer, Outside, next_answer, next_writes, next_number, real_world}
use Rattle.stk_run_laws.specs.Held.{IsClear, Agrees, Unmoved}
use Rattle.stk_run_laws.proofs.Nodes.{Stands}
use Rattle.stk_run_laws.proofs.Bytes.{number_fits}
use Rattle.stk_run_laws.proofs.Keeping.{unmoved_part, unmoved_all, unmoved_clear, unmoved_store, agrees_unmoved, agrees_store, agrees_read, agrees_drop, agrees_all}
use Rattle.stk_run_laws.specs.TypedTree.{kept_node, kept_kind}
use Rattle.stk_run_laws.proofs.WellTyped.{IsObject}
use Rattle.stk_run_laws.proofs.Maps.{Ground, held, kind_at, Changes, IsListed, put, put_here, put_only, only_refl, Good}
use Rattle.stk_run_laws.proofs.Join.{Gathered, gathered_cut, gathered_same}
use Rattle.stk_run_laws.proofs.Same.{Same, SameBy, same_refl, same_set, same_memory}
use Rattle.stk_run_laws.proofs.Parts.{Right, sides, Part}

-- the path run asks the map for one number
gathered_key : {A : Type 0} (c : Ground) (w : Visits) (m0 : InputMap) (key : Key) (x : ℤ) (y : A) (r : List ℤ) (s : Outside) (kept : KeptNumbers) (P : ℤ → Ran A KeptNumbers) → Changes w key → IsListed c.keys key → fits (kind_at c.setting.typing key) x ≡ true → ((o : ℕ) → key ≡ address_key o → ⊥) → Right c kept s → P x ≡ Went y r kept [] → Gathered (sides c) w m0 (Went y r s []) (λ m. P (m key))
gathered_key c w m0 key x y r s kept P own listed fit no_address right is =
    gathered_same (sides c) w m0 (put m0 key x) y r s kept [] (λ m. P (m key)) (put_only c w m0 key x listed fit no_address own) right (ap P (put_here m0 key x) ∙ is)

module _ (c : Ground) where
  -- the world of the executions that start from the ground's addresses
  abbrev pub real : ℕ → World Outside
  real n = real_world c.addresses n

  -- ---- loads

  -- what is asked of a load at a node: its key is listed with its kind, and a kept object's address is that of its
  -- place
  abbrev pub LoadsWell : Target → ℕ → IntKind → ℕ → Type 0
  LoadsWell (in_register i) k kind a = Unit {0}
  LoadsWell (in_kept q) k kind a = IsListed c.keys (load_key k) × (number_kind (c.setting.typing.type_at k) ≡ kind) × (q < length c.setting.kept) × (kind ≡ kept_kind c.setting q) × (a ≡ c.addresses (kept_node c.setting q))
  LoadsWell (in_object o) k kind a = IsListed c.keys (load_key k) × (number_kind (c.setting.typing.type_at k) ≡ kind)
  LoadsWell unnamed k kind a = IsListed c.keys (load_key k) × (number_kind (c.setting.typing.type_at k) ≡ kind)

  load_any : (w : Visits) (k : ℕ) (kind : IntKind) (a : ℕ) → Stands k w → IsListed c.keys (load_key k) → number_kind (c.setting.typing.type_at k) ≡ kind → (m : InputMap) (r : List ℤ) (s : Outside) (kept : KeptNumbers) → Right c kept s → Gathered (sides c) w m (Went (number_at kind a s.memory) r s []) (λ m. Went (m (load_key k)) r kept [])
  load_any w k kind a st listed same m r s kept right =
      gathered_key c w m (load_key k) (number_at kind a s.memory) (number_at kind a s.memory) r s kept (λ z. Went z r kept []) st listed
      (subst (λ z. fits z (number_at kind a s.memory) ≡ true) (sym same) (number_fits kind a s.memory)) (λ o e. absurd cc) right refl

  -- a read by name: the kept number is right, or the number that the memory gives is kept
  load_kept : (w : Visits) (q k : ℕ) → Stands k w → IsListed c.keys (load_key k) → number_kind (c.setting.typing.type_at k) ≡ kept_kind c.setting q → q < length c.setting.kept → (m : InputMap) (r : List ℤ) (s : Outside) (kept : KeptNumbers) → Right c kept s → (o : Option ℤ) → get_or kept q None ≡ o → Gathered (sides c) w m (Went (number_at (kept_kind c.setting q) (c.addresses (kept_node c.setting q)) s.memory) r s []) (λ m. told (kept_or q (m (load_key k)) o kept) r)
  load_kept w q k st listed same is_kept m r s kept right None e =
      let kind = kept_kind c.setting q in
      let a = c.addresses (kept_node c.setting q) in
      let x = number_at kind a s.memory in
      gathered_key c w m (load_key k) x x r s (set kept q (Some x)) (λ z. told (kept_or q z None kept) r) st listed
      (subst (λ z. fits z x ≡ true) (sym same) (number_fits kind a s.memory)) (λ o e. absurd cc) (agrees_read (held c) q kept s.memory is_kept right) refl
  load_kept w q k st listed same is_kept m r s kept right (Some y) e =
      gathered_same (sides c) w m m _ r s kept [] (λ m. told (kept_or q (m (load_key k)) (Some y) kept) r) (only_refl c w m) right
      (ap (λ (z : ℤ). Went z r kept []) (sym (right.number q y e)))

  pub part_load : (n : ℕ) (Q : Type 0) (w : Visits) (target : Target) (k : ℕ) (kind : IntKind) (a : ℕ) → Stands k w → (Q → Good c w → LoadsWell target k kind a) → Part c Q w (number_in (real n) target k kind a) (λ m. number_in (path_world m) target k kind a)
  part_load n Q w (in_register i) k kind a st ok = record {
    frame = λ m m' h r kept. refl;
    same = λ q h r s. same_refl c _ r s;
    gathers = λ q h m r s kept base fit right. gathered_same (sides c) w m m _ r s kept [] _ (only_refl c w m) right refl;
  }
  part_load n Q w (in_kept p) k kind a st ok = record {
    frame = λ m m' h r kept. ap (λ (z : ℤ). told (kept_or p z (get_or kept p None) kept) r) (h.at (load_key k) st);
    same = λ q h r s. same_refl c _ r s;
    gathers = λ q h m r s kept base fit right.
        let z = ok q h in
        let one = load_kept w p k st z.0 (z.1 ∙ z.3) z.2 m r s kept right (get_or kept p None) refl in
        let two = subst (λ kind. Gathered (sides c) w m (Went (number_at kind (c.addresses (kept_node c.setting p)) s.memory) r s []) (λ m. told (kept_or p (m (load_key k)) (get_or kept p None) kept) r)) (sym z.3) one in
        subst (λ a. Gathered (sides c) w m (Went (number_at kind a s.memory) r s []) (λ m. told (kept_or p (m (load_key k)) (get_or kept p None) kept) r)) (sym z.4) two;
  }
  part_load n Q w (in_object o) k kind a st ok = record {
    frame = λ m m' h r kept. ap (λ (z : ℤ). Went z r kept []) (h.at (load_key k) st);
    same = λ q h r s. same_refl c _ r s;
    gathers = λ q h m r s kept base fit right. load_any w k kind a st (ok q h).0 (ok q h).1 m r s kept right;
  }
  part_load n Q w unnamed k kind a st ok = record {
    frame = λ m m' h r kept. ap (λ (z : ℤ). Went z r kept []) (h.at (load_key k) st);
    same = λ q h r s. same_refl c _ r s;
    gathers = λ q h m r s kept base fit right. load_any w k kind a st (ok q h).0 (ok q h).1 m r s kept right;
  }

  -- ---- stores

  -- what is asked of a store: a number in range for a register; the kind and the address of a kept object; bytes that
  -- no kept object has
  abbrev pub StoresWell : Target → IntKind → ℕ → ℤ → Type 0
  StoresWell (in_register i) kind a x = (fits (number_kind (c.setting.typing.type_at i)) x ≡ true) × (is_among i c.setting.registers ≡ true)
  StoresWell (in_kept q) kind a x = (q < length c.setting.kept) × (kind ≡ kept_kind c.setting q) × (a ≡ c.addresses (kept_node c.setting q)) × (wrap kind x ≡ x)
  StoresWell (in_object o) kind a x = (a + bytes_of kind < 2 ^ 64) × ((q : ℕ) → q < length c.setting.kept → IsClear (held c) q a (bytes_of kind))
  StoresWell unnamed kind a x = Unit {0}

  named_spot : (j : ℕ) (y : Spot) → y ≡ register_spot j → is_register_spot j y ≡ false → ⊥
  named_spot j (register_spot i) e h = let same : i ≡ j = cc in absurd (grind (arith, common_steps))
  named_spot j (kept_spot q) e h = absurd cc

  pub part_store : (n : ℕ) (Q : Type 0) (w : Visits) (target : Target) (kind : IntKind) (a : ℕ) (x result : ℤ) → ((y : Spot) → changes c.setting w y ≡ false → stored_in target y ≡ false) → (Q → Good c w → StoresWell target kind a x) → Part c Q w (stored_at (real n) target kind a x result) (λ m. stored_at (path_world m) target kind a x result)
  part_store n Q w (in_register i) kind a x result ch ok = record {
    frame = λ m m' h r kept. refl;
    same = λ q h r s. same_set c _ i r s x (ok q h).0 (ok q h).1 (λ y e same. named_spot i y same (ch y e));
    gathers = λ q h m r s kept base fit right. gathered_same (sides c) w m m result (set r i x) s kept [] _ (only_refl c w m) right refl;
  }
  part_store n Q w (in_kept p) kind a x result ch ok = record {
    frame = λ m m' h r kept. refl;
    same = λ q h r s.
        let z = ok q h in
        let one = unmoved_store (held c) h.ground.are_held p x s.memory z.0 in
        let two = subst (λ kind. Unmoved (held c) (λ j. p == j) s.memory (stored kind (c.addresses (kept_node c.setting p)) x s.memory)) (sym z.1) one in
        let three = subst (λ a. Unmoved (held c) (λ j. p == j) s.memory (stored kind a x s.memory)) (sym z.2) two in
        same_memory c _ r s _ (unmoved_part (held c) (λ j. p == j) (λ j. changes c.setting w (kept_spot j)) s.memory (stored kind a x s.memory) (λ j. ch (kept_spot j)) three);
    gathers = λ q h m r s kept base fit right.
        let z = ok q h in
        let one = agrees_store (held c) h.ground.are_held p x kept s.memory z.0 right in
        let two = subst (λ kind. Agrees (held c) (set kept p (Some (wrap kind x))) (stored kind (c.addresses (kept_node c.setting p)) x s.memory)) (sym z.1) one in
        let three = subst (λ a. Agrees (held c) (set kept p (Some (wrap kind x))) (stored kind a x s.memory)) (sym z.2) two in
        let four = subst (λ y. Agrees (held c) (set kept p (Some y)) (stored kind a x s.memory)) z.3 three in
        gathered_same (sides c) w m m result r (record { memory = stored kind a x s.memory; answers = s.answers }) (set kept p (Some x)) [] _ (only_refl c w m) four refl;
  }
  part_store n Q w (in_object o) kind a x result ch ok = record {
    frame = λ m m' h r kept. refl;
    same = λ q h r s. same_memory c _ r s _ (unmoved_clear (held c) h.ground.are_held a kind x (λ j. changes c.setting w (kept_spot j)) s.memory (ok q h).0 (λ p k e. (ok q h).1 p k));
    gathers = λ q h m r s kept base fit right.
        gathered_same (sides c) w m m result r (record { memory = stored kind a x s.memory; answers = s.answers }) kept [] _ (only_refl c w m)
        (agrees_unmoved (held c) kept s.memory (stored kind a x s.memory) right (unmoved_clear (held c) h.ground.are_held a kind x (λ j. false) s.memory (ok q h).0 (λ p k e. (ok q h).1 p k))) refl;
  }
  part_store n Q w unnamed kind a x result ch ok = record {
    frame = λ m m' h r kept. refl;
    same = λ q h r s. same_memory c _ r s _ (unmoved_part (held c) (λ j. true) (λ j. changes c.setting w (kept_spot j)) s.memory _ (λ j. ch (kept_spot j)) (unmoved_all (held c) (λ j. true) s.memory _ (λ j. refl)));
    gathers = λ q h m r s kept base fit right.
        gathered_same (sides c) w m m result r (record { memory = stored kind a x s.memory; answers = s.answers }) (all_forgotten kept) [] _ (only_refl c w m) (agrees_all (held c) kept s.memory (stored kind a x s.memory) right) refl;
  }

  -- ---- addresses

  pub part_address : (n : ℕ) (Q : Type 0) (w : Visits) (k : ℕ) → (Q → Good c w → IsObject c.objects k) → Part c Q w (gives ((real n).address k)) (λ m. gives ((path_world m).address k))
  part_address n Q w k ok = record {
    frame = λ m m' h r kept. ap (λ z. Went (to_address z) r kept []) (h.at (address_key k) tt);
    same = λ q h r s. same_refl c _ r s;
    gathers = λ q h m r s kept base fit right. gathered_same (sides c) w m m (c.addresses k) r s kept [] _ (only_refl c w m) right (ap (λ (z : ℕ). Went z r kept []) (base.addresses k (ok q h)));
  }

  -- ---- calls and other answers of the outside

  -- each kept object may change
  abbrev pub ChangesAll : Visits → Type 0
  ChangesAll w = (y : Spot) → changes c.setting w y ≡ false → is_any_kept y ≡ false

  all_same : (w : Visits) → ChangesAll w → (r : List ℤ) (s s' : Outside) → Same c (changes c.setting w) r s r s'
  all_same w ch r s s' = same_memory c _ r s s' (unmoved_part (held c) (λ j. true) (λ j. changes c.setting w (kept_spot j)) s.memory s'.memory (λ j. ch (kept_spot j)) (unmoved_all (held c) (λ j. true) s.memory s'.memory (λ j. refl)))

  call_same : (w : Visits) → ChangesAll w → (t : TypeTree) (r : List ℤ) (s : Outside) (answers : List Answer) → SameBy c (changes c.setting w) r s (answered (next_answer t s.memory answers) r)
  call_same w ch t r s [] = tt
  call_same w ch t r s (x ∷ xs) = all_same w ch r s _

  call_gathers : (w : Visits) (k : ℕ) (t : TypeTree) → Stands k w → (is_void t ≡ false → IsListed c.keys (call_key k) × (number_kind (c.setting.typing.type_at k) ≡ number_kind t)) → (m : InputMap) (r : List ℤ) (s : Outside) (kept : KeptNumbers) → Right c kept s → (answers : List Answer) → Gathered (sides c) w m (answered (next_answer t s.memory answers) r) (λ m. Went (if is_void t then pos 0 else m (call_key k)) r (all_forgotten kept) [])
  call_gathers w k t st ok m r s kept right [] = gathered_cut (sides c) w m _
  call_gathers w k t st ok m r s kept right (x ∷ xs) = by (is_void t) refl
    where
      by : (b : Bool) → is_void t ≡ b → Gathered (sides c) w m (Went (if b then pos 0 else converted t x.number) r (record { memory = put_all x.writes s.memory; answers = xs }) []) (λ m. Went (if b then pos 0 else m (call_key k)) r (all_forgotten kept) [])
      by true e = gathered_same (sides c) w m m (pos 0) r (record { memory = put_all x.writes s.memory; answers = xs }) (all_forgotten kept) [] (λ m. Went (pos 0) r (all_forgotten kept) []) (only_refl c w m) (agrees_all (held c) kept s.memory (put_all x.writes s.memory) right) refl
      by false e =
          let z = ok e in
          gathered_key c w m (call_key k) (converted t x.number) (converted t x.number) r (record { memory = put_all x.writes s.memory; answers = xs }) (all_forgotten kept) (λ y. Went y r (all_forgotten kept) []) st z.0
          (subst (λ j. fits j (converted t x.number) ≡ true) (sym z.1) (wrap_in_range (number_kind t) x.number)) (λ o e. absurd cc)
          (agrees_all (held c) kept s.memory (put_all x.writes s.memory) right) refl

  pub part_call : (n : ℕ) (Q : Type 0) (w : Visits) (k : ℕ) (t : TypeTree) → Stands k w → ChangesAll w → (Q → Good c w → is_void t ≡ false → IsListed c.keys (call_key k) × (number_kind (c.setting.typing.type_at k) ≡ number_kind t)) → Part c Q w (λ r s. answered ((real n).call k t s) r) (λ m r kept. answered ((path_world m).call k t kept) r)
  part_call n Q w k t st ch ok = record {
    frame = λ m m' h r kept. ap (λ (z : ℤ). Went (if is_void t then pos 0 else z) r (all_forgotten kept) []) (h.at (call_key k) st);
    same = λ q h r s. call_same w ch t r s s.answers;
    gathers = λ q h m r s kept base fit right. call_gathers w k t st (ok q h) m r s kept right s.answers;
  }

  write_same : {A : Type 0} (w : Visits) → ChangesAll w → (x : A) (r : List ℤ) (s : Outside) (answers : List Answer) → SameBy c (changes c.setting w) r s (written x (next_writes s.memory answers) r)
  write_same w ch x r s [] = tt
  write_same w ch x r s (y ∷ ys) = all_same w ch r s _

  write_gathers : {A : Type 0} (w : Visits) (x : A) (m : InputMap) (r : List ℤ) (s : Outside) (kept : KeptNumbers) → Right c kept s → (answers : List Answer) → Gathered (sides c) w m (written x (next_writes s.memory answers) r) (λ m. Went x r (all_forgotten kept) [])
  write_gathers w x m r s kept right [] = gathered_cut (sides c) w m _
  write_gathers w x m r s kept right (y ∷ ys) =
      gathered_same (sides c) w m m x r (record { memory = put_all y.writes s.memory; answers = ys }) (all_forgotten kept) [] (λ m. Went x r (all_forgotten kept) []) (only_refl c w m) (agrees_all (held c) kept s.memory (put_all y.writes s.memory) right) refl

  pub part_write : (n : ℕ) {A : Type 0} (Q : Type 0) (w : Visits) (x : A) → (Q → Good c w → ChangesAll w) → Part c Q w (λ r s. written x ((real n).write s) r) (λ m r kept. written x ((path_world m).write kept) r)
  part_write n Q w x ch = record {
    frame = λ m m' h r kept. refl;
    same = λ q h r s. write_same w (ch q h) x r s s.answers;
    gathers = λ q h m r s kept base fit right. write_gathers w x m r s kept right s.answers;
  }

  -- a register that is declared without initialiser: the execution takes the next answer, and the path run the map's
  -- number
  abbrev begins : {S A : Type 0} → A → ℕ → Option (ℤ × S) → List ℤ → Ran A S
  begins x i o r = and_then (answered o r) (λ y r m. gives x (set r i y) m)

  unset_same : {A : Type 0} (w : Visits) (x : A) (i : ℕ) → ((z : Spot) → changes c.setting w z ≡ false → is_register_spot i z ≡ false) → is_among i c.setting.registers ≡ true → (r : List ℤ) (s : Outside) (answers : List Answer) → SameBy c (changes c.setting w) r s (begins x i (next_number (number_kind (c.setting.typing.type_at i)) s.memory answers) r)
  unset_same w x i ch register r s [] = tt
  unset_same w x i ch register r s (y ∷ ys) =
      let a = same_set c (changes c.setting w) i r s (wrap (number_kind (c.setting.typing.type_at i)) y.number) (wrap_in_range (number_kind (c.setting.typing.type_at i)) y.number) register (λ z e same. named_spot i z same (ch z e)) in
      record { size = a.size; registers = a.registers; others = a.others; fits = a.fits; objects = a.objects }

  unset_gathers : {A : Type 0} (w : Visits) (x : A) (i : ℕ) → Stands i w → IsListed c.keys (unset_key i) → (m : InputMap) (r : List ℤ) (s : Outside) (kept : KeptNumbers) → Right c kept s → (answers : List Answer) → Gathered (sides c) w m (begins x i (next_number (number_kind (c.setting.typing.type_at i)) s.memory answers) r) (λ m. Went x (set r i (m (unset_key i))) kept [])
  unset_gathers w x i st listed m r s kept right [] = gathered_cut (sides c) w m _
  unset_gathers w x i st listed m r s kept right (y ∷ ys) =
      let kind = number_kind (c.setting.typing.type_at i) in
      gathered_key c w m (unset_key i) (wrap kind y.number) x (set r i (wrap kind y.number)) (record { memory = s.memory; answers = ys }) kept (λ z. Went x (set r i z) kept []) st listed (wrap_in_range kind y.number) (λ o e. absurd cc) right refl

  pub part_unset : (n : ℕ) {A : Type 0} (w : Visits) (x : A) (i : ℕ) → Stands i w → ((z : Spot) → changes c.setting w z ≡ false → is_register_spot i z ≡ false) → is_among i c.setting.registers ≡ true → (Good c w → IsListed c.keys (unset_key i)) → Part c (Unit {0}) w (λ r s. and_then (answered ((real n).unset i (number_kind (c.setting.typing.type_at i)) s) r) (λ y r s. gives x (set r i y) s)) (λ m r kept. and_then (answered ((path_world m).unset i (number_kind (c.setting.typing.type_at i)) kept) r) (λ y r kept. gives x (set r i y) kept))
  part_unset n w x i st ch register ok = record {
    frame = λ m m' h r kept. ap (λ (z : ℤ). Went x (set r i z) kept []) (h.at (unset_key i) st);
    same = λ q h r s. unset_same w x i ch register r s s.answers;
    gathers = λ q h m r s kept base fit right. unset_gathers w x i st (ok h) m r s kept right s.answers;
  }

  -- the declaration of a kept object without initialiser
  pub part_begin : (n : ℕ) {A : Type 0} (Q : Type 0) (w : Visits) (x : A) (p : ℕ) → Part c Q w (λ r s. gives x r ((real n).begin_kept p s)) (λ m r kept. gives x r ((path_world m).begin_kept p kept))
  part_begin n Q w x p = record {
    frame = λ m m' h r kept. refl;
    same = λ q h r s. same_refl c _ r s;
    gathers = λ q h m r s kept base fit right. gathered_same (sides c) w m m x r s (set kept p None) [] _ (only_refl c w m) (agrees_drop (held c) p kept s.memory right) refl;
  }
