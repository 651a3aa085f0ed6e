pub mod PlainValues
pub mod PlainSteps
pub mod PlainPuts
pub mod PlainMade
pub mod PlainExtends
pub mod PlainPushes
pub mod PlainZeros
pub mod PlainImages
