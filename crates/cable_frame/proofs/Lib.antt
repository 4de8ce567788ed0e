pub mod LinesPut
pub mod FramesPut
