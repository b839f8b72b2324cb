-- What a server sends is a packet where what it took was one.
use Rattle.std.proofs.Common.{◌≡◌, ℕ, ◌^◌, ◌<◌, true, List, arith, ◌≢◌}
use Rattle.std.proofs.lemmas.Bool.Decides.{nat_tests}
use Rattle.peg_name.specs.declared.Format.{Format}
use Rattle.peg_name.specs.declared.Format.TheVariants.{One, Two}
use Rattle.peg_name.specs.declared.value.Content.{Content}
use Rattle.peg_model.specs.Packet.{in_range, is_read_content, is_content, ToServerRead}
use Rattle.peg_model.specs.Packet.{ToServerWrite, ReadReply, WriteReply, CopyOrder, CopyData}
use Rattle.peg_model.specs.Packet.{Held, Fence, Void}

pub read_reply_in_range :
    (format : Format) (client seq server switch version : ℕ) (key : List ℕ) (content : Content)
    → in_range format (ToServerRead client seq server switch key) ≡ true
    → version < 2 ^ 64
    → is_read_content format version content ≡ true
    → in_range format (ReadReply client seq version server switch key content) ≡ true
unfolding in_range
read_reply_in_range One client seq server switch version key content h small sent =
    grind (arith, nat_tests)
read_reply_in_range Two client seq server switch version key content h small sent =
    grind (arith, nat_tests)

pub write_reply_in_range :
    (format : Format) (client seq version server switch : ℕ) (key : List ℕ) (content : Content)
    → in_range format (ToServerWrite client seq version server switch key content) ≡ true
    → in_range format (WriteReply client seq version server switch key) ≡ true
unfolding in_range
write_reply_in_range One client seq version server switch key content h = grind (arith, nat_tests)
write_reply_in_range Two client seq version server switch key content h = grind (arith, nat_tests)

pub void_in_range :
    (format : Format) (client seq version server switch : ℕ) (key : List ℕ) (content : Content)
    → in_range format (ToServerWrite client seq version server switch key content) ≡ true
    → in_range format (Void client seq version server switch key) ≡ true
unfolding in_range
void_in_range One client seq version server switch key content h = grind (arith, nat_tests)
void_in_range Two client seq version server switch key content h = grind (arith, nat_tests)

pub copied_in_range :
    (format : Format) (switch server target version : ℕ) (key : List ℕ) (content : Content)
    → in_range format (CopyOrder switch server target key) ≡ true
    → version < 2 ^ 64 → version ≢ 0
    → is_content format content ≡ true
    → in_range format (CopyData switch target version key content) ≡ true
unfolding in_range
copied_in_range One switch server target version key content h small some fits =
    grind (arith, nat_tests)
copied_in_range Two switch server target version key content h small some fits =
    grind (arith, nat_tests)

pub held_of_copy_in_range :
    (format : Format) (switch server version : ℕ) (key : List ℕ) (content : Content)
    → in_range format (CopyData switch server version key content) ≡ true
    → in_range format (Held server version key) ≡ true
unfolding in_range
held_of_copy_in_range One switch server version key content h = grind (arith, nat_tests)
held_of_copy_in_range Two switch server version key content h = grind (arith, nat_tests)

pub held_of_fence_in_range :
    (format : Format) (switch server version : ℕ) (key : List ℕ)
    → in_range format (Fence switch server version key) ≡ true
    → in_range format (Held server version key) ≡ true
unfolding in_range
held_of_fence_in_range One switch server version key h = grind (arith, nat_tests)
held_of_fence_in_range Two switch server version key h = grind (arith, nat_tests)
