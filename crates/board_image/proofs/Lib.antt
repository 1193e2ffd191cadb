pub mod ImageLoops
pub mod EventFormats
pub mod StepFormats
pub mod CardFormats
pub mod ImageFormats
