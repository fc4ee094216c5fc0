-- The nullable byte of a place says its marks.
use Rattle.std.specs.Prelude.{◌≡◌, refl, Bool, true, false}
use Rattle.model.specs.Tracing.{marks}
use Rattle.model.specs.Emission.{nullable_byte}
use Rattle.places.specs.Nullable.{is_null, is_widened, admitting, widening}

pub byte_null : (null widened : Bool) → is_null (nullable_byte (marks null widened)) ≡ null
byte_null true true = refl
byte_null true false = refl
byte_null false true = refl
byte_null false false = refl

pub byte_widened : (null widened : Bool) → is_widened (nullable_byte (marks null widened)) ≡ widened
byte_widened true true = refl
byte_widened true false = refl
byte_widened false true = refl
byte_widened false false = refl

pub byte_admitting : (null widened : Bool) → admitting (nullable_byte (marks null widened)) ≡ nullable_byte (marks true widened)
byte_admitting true true = refl
byte_admitting true false = refl
byte_admitting false true = refl
byte_admitting false false = refl

pub byte_widening : (null widened : Bool) → widening (nullable_byte (marks null widened)) ≡ nullable_byte (marks null true)
byte_widening true true = refl
byte_widening true false = refl
byte_widening false true = refl
byte_widening false false = refl
